-- A planner in which a container was made stands for the state in which it is made.
use Rattle.std.proofs.Common.{◌≡◌, ◌≢◌, ℕ, zero, suc, ◌+◌, ◌<◌, ◌≤◌, ◌⊎◌, inl, inr, ⊎_elim, Bool, true, false, cond, eq-eqb, ne_eqb, ◌&&◌, ◌||◌, ℤ, List, [], ◌∷◌, ◌++◌, length, Option, Some, None, refl, sym, ap, subst, ◌∙◌, arith, append_assoc, length-append}
use Rattle.std.specs.Prelude.{nat_eq, nat_lt, slice_get, slice_set, get_or, Vec}
use Rattle.std.specs.declared.alloc.Global.{Global}
use Rattle.std.proofs.lemmas.Bool.{cases_eq, cases_lt}
use Rattle.job_base.specs.declared.limits.TheConstants.{MOST_CREATED_WORDS}
use Rattle.frame_ast.specs.declared.script.Life.{Life}
use Rattle.frame_ast.specs.Contents.{Contents, words_of}
use Rattle.frame_ast.specs.Conflicts.{unused, has_pending}
use Rattle.frame_ast.specs.Effects.{make, is_tempjob}
use Rattle.frame_ast.specs.Jobs.{greatest}
use Rattle.frame_ast.specs.Laws.{AreUpTo, AreUses}
use Rattle.frame_ast.specs.Orders.{Setting}
use Rattle.frame_ast.specs.Ranges as ranges
use Rattle.frame_ast.specs.Ranges.{IsFirstFit}
use Rattle.frame_ast.specs.Refusals.{is_temp}
use Rattle.frame_ast.specs.States as states
use Rattle.frame_ast.specs.States.{ScriptState, Making, with_at, is_live, live_words, live_below}
use Rattle.slot_store.specs.declared.slot.Slot.{Slot}
use Rattle.slot_store.specs.declared.slot.Version.{Version}
use Rattle.slot_store.specs.declared.slot.Taken.{Taken}
use Rattle.slot_store.specs.declared.store.SlotStore.{SlotStore}
use Rattle.slot_store.specs.declared.place.Place.{Place}
use Rattle.slot_store.specs.Places.{in_use, is_held, is_taken, users_of}
use Rattle.slot_store.specs.Stores.{place_of, is_live_word, taken}
use Rattle.safety_handle.specs.declared.book.SafetyBook.{SafetyBook}
use Rattle.safety_handle.specs.Entries.{SlotState, state_of, fresh}
use Rattle.safety_handle.specs.Uses.{StandForUses}
use Rattle.safety_handle.specs.Checks.{is_current}
use Rattle.frame_core.specs.declared.plan.Act.TheVariants.{Fill}
use Rattle.frame_core.specs.declared.plan.Op.{Op}
use Rattle.frame_core.specs.Ordered.{IsLiteral}
use Rattle.frame_core.proofs.Small.{not_both, some_is, none_some, get_before, get_below, get_either, either_bool}
use Rattle.plan_laws.specs.Binds.{bind_of}
use Rattle.plan_laws.specs.Making.{FillsAs, next_span}
use Rattle.plan_laws.specs.Planned.{Outline, IsPlanned}
use Rattle.plan_laws.proofs.Statements.Making.{at_here, at_other, live_below as below_made, alive_is_live, containers_are_planned}
use Rattle.plan_state.specs.declared.state.Value.{Value}
use Rattle.plan_state.specs.declared.state.Value.TheVariants.{Dead, Whole, Slice, View, Jobs as Handles}
use Rattle.plan_state.specs.declared.state.Container.{Container}
use Rattle.plan_state.specs.declared.state.Planner.{Planner}
use Rattle.plan_statements.specs.Making.{TakesWords, and_if}
use Rattle.plan_state.specs.Stands.{value_for, IsThere, AreNames, tag_of, IsContainer, IsOwned, AreContainers, AreTemps, AreTempJobs, AreFrames, IsCopy, IsGuardedCopy, AreKernels, AreNumbers, Agrees, Stands, draft_of}
use Rattle.plan_state.proofs.Naming.{set_either, set_long}
use Rattle.plan_statements.proofs.Ranges.Storing.{live_words_are_alike}

-- LISTS

pub get_new : (xs : List ℕ) (x k : ℕ) → k ≡ length xs → get_or (xs ++ x ∷ []) k 0 ≡ x
get_new [] x k e = ap (λ k. get_or (x ∷ []) k 0) e
get_new (y ∷ xs) x zero e = absurd (omega arith)
get_new (y ∷ xs) x (suc k) e = get_new xs x k (omega arith)

pub get_old : (xs : List ℕ) (x k : ℕ) → k < length xs → get_or (xs ++ x ∷ []) k 0 ≡ get_or xs k 0
get_old [] x k lt = absurd (omega arith)
get_old (y ∷ xs) x zero lt = refl
get_old (y ∷ xs) x (suc k) lt = get_old xs x k (omega arith)

pub one_more : {A : Type 0} (xs : List A) (x : A) → length (xs ++ x ∷ []) ≡ suc (length xs)
one_more [] x = refl
one_more (y ∷ xs) x = ap suc (one_more xs x)

pub get_last : {A : Type 0} (xs : List A) (x : A) → slice_get (xs ++ x ∷ []) (length xs) ≡ Some x
get_last [] x = refl
get_last (y ∷ xs) x = get_last xs x

-- a list that has a number more, or not
and_before : (b : Bool) (xs : List ℕ) (c k d : ℕ) → slice_get xs k ≡ Some d → slice_get (and_if b xs c) k ≡ Some d
and_before true xs c k d h = get_before xs (c ∷ []) k (get_below xs k d h) ∙ h
and_before false xs c k d h = h

and_last : (b : Bool) (xs : List ℕ) (c : ℕ) → b ≡ true → slice_get (and_if b xs c) (length xs) ≡ Some c
and_last true xs c e = get_last xs c
and_last false xs c e = absurd (not_both e refl)

and_either : (b : Bool) (xs : List ℕ) (c k d : ℕ) → slice_get (and_if b xs c) k ≡ Some d
    → (slice_get xs k ≡ Some d) ⊎ ((b ≡ true) × (k ≡ length xs) × (c ≡ d))
and_either true xs c k d h = ⊎_elim (λ l. inl l.1) (λ r. one r.0 r.1 r.2) (get_either xs (c ∷ []) k d h)
  where
    one : (n : ℕ) → k ≡ length xs + n → slice_get (c ∷ []) n ≡ Some d → (slice_get xs k ≡ Some d) ⊎ ((true ≡ true) × (k ≡ length xs) × (c ≡ d))
    one zero e h = inr (refl, omega arith, some_is h)
    one (suc n) e h = absurd (none_some h)
and_either false xs c k d h = inl h

and_long : (b : Bool) (xs : List ℕ) (c : ℕ) → length xs ≤ length (and_if b xs c)
and_long true xs c = let e = one_more xs c in omega arith
and_long false xs c = omega arith

-- THE NEW PLANNER, by what the calls say

pub record IsMade (p : Planner) (line name : ℕ) (life : Life) (contents : Contents) (literal : Option ℕ) (t : Taken) (it : Container)
    (store : SlotStore) (safety : SafetyBook) (containers : Vec Container Global) (values : Vec Value Global) (temps tempjobs : Vec ℕ Global)
    (created : ℕ) (literals : Vec (Vec ℤ Global) Global) (ops : Vec Op Global) : Type 0 where
  pub small : created ≤ MOST_CREATED_WORDS
  pub created_is : created ≡ p.world.created + words_of contents
  pub takes : TakesWords p.world.store store (words_of contents) t
  pub enrolled : state_of safety t.slot.0 ≡ fresh t.version.0
  pub others : (k : ℕ) → k ≢ t.slot.0 → state_of safety k ≡ state_of p.world.safety k
  pub bind : it.bind ≡ bind_of t.span.start contents
  pub slot_is : it.slot ≡ t.slot
  pub version_is : it.version ≡ t.version
  pub life_is : it.life ≡ life
  pub frame_is : it.frame ≡ p.world.frame
  pub name_is : it.name ≡ name
  pub line_is : it.line ≡ line
  pub containers_are : containers.items ≡ p.world.containers.items ++ it ∷ []
  pub values_are : values.items ≡ slice_set p.world.values.items name (Whole (length p.world.containers.items))
  pub temps_are : temps.items ≡ and_if (is_temp life) p.world.temps.items (length p.world.containers.items)
  pub tempjobs_are : tempjobs.items ≡ and_if (is_tempjob life) p.world.tempjobs.items (length p.world.containers.items)
  pub literals_more : List (Vec ℤ Global)
  pub literals_are : literals.items ≡ p.draft.literals.items ++ literals_more
  pub literals_one : length literals_more ≤ 1
  pub ops_are : ops.items ≡ p.draft.ops.items ++ record { line = line; name = name; act = Fill t.span literal } ∷ []

module _ (p : Planner) (g : Setting) (begun : ScriptState) (n : ℕ) (s : ScriptState) (found : List ℕ)
    (line name : ℕ) (life : Life) (contents : Contents) (literal : Option ℕ) (t : Taken) (it : Container)
    (store : SlotStore) (safety : SafetyBook) (containers : Vec Container Global) (values : Vec Value Global) (temps tempjobs : Vec ℕ Global)
    (created : ℕ) (literals : Vec (Vec ℤ Global) Global) (ops : Vec Op Global)
    (st : Stands p g begun n s found) (below : name < length g.names)
    (made : IsMade p line name life contents literal t it store safety containers values temps tempjobs created literals ops) where
  abbrev q : Planner
  q = record p {
    world = record p.world {
      store = store;
      safety = safety;
      containers = containers;
      values = values;
      temps = temps;
      tempjobs = tempjobs;
      created = created;
    };
    draft = record p.draft { literals = literals; ops = ops };
  }

  abbrev u : ScriptState
  u = make line name life contents s

  abbrev found' : List ℕ
  found' = found ++ t.span.start ∷ []

  w : TakesWords p.world.store store (words_of contents) t
  w = made.takes

  length_is : length p.world.containers.items ≡ s.made
  length_is = st.knows.containers.made

  place_old : (k : ℕ) → k ≢ t.slot.0 → place_of store k ≡ place_of p.world.store k
  place_old k ne = w.places k ∙ ap (λ b. cond b (taken t.version.0 t.span) (place_of p.world.store k)) (ne_eqb k t.slot.0 ne)

  place_new : place_of store t.slot.0 ≡ taken t.version.0 t.span
  place_new = w.places t.slot.0 ∙ ap (λ b. cond b (taken t.version.0 t.span) (place_of p.world.store t.slot.0)) (eq-eqb t.slot.0 t.slot.0 refl)

  old_live : (c : ℕ) → c ≢ s.made → is_live u c ≡ is_live s c
  old_live c ne = λ i. lt_same i && (at_other s.alive s.made true c ne i || has_pending s.book (at_other s.uses s.made unused c ne i))
    where
      lt_same : nat_lt c (s.made + 1) ≡ nat_lt c s.made
      lt_same = ⊎_elim
          (λ lt. (let a : nat_lt c (s.made + 1) ≡ true = grind arith in a) ∙ sym (let b : nat_lt c s.made ≡ true = grind arith in b))
          (λ ge. (let a : nat_lt c (s.made + 1) ≡ false = grind arith in a) ∙ sym (let b : nat_lt c s.made ≡ false = grind arith in b))
          (cases_lt c s.made)

  new_live : is_live u s.made ≡ true
  new_live = alive_is_live u s.made (omega arith) (at_here s.alive s.made true)

  -- a live container has another slot
  other_slot : (c : ℕ) (i : Container) → slice_get p.world.containers.items c ≡ Some i → is_live s c ≡ true → i.slot.0 ≢ t.slot.0
  other_slot c i has live e = not_both ((st.knows.containers.each c i has).in_use live) (ap (λ k. in_use (place_of p.world.store k).state) e ∙ w.free)

  -- the making of containers
  making_old : (c : ℕ) → c ≢ s.made → u.making c ≡ s.making c
  making_old c ne = at_other s.making s.made (record { frame = s.frame; name = name; line = line }) c ne

  making_new : u.making s.made ≡ record { frame = s.frame; name = name; line = line }
  making_new = at_here s.making s.made (record { frame = s.frame; name = name; line = line })

  values_long : length values.items ≡ length p.world.values.items
  values_long = ap length made.values_are ∙ set_long p.world.values.items name (Whole (length p.world.containers.items))

  -- OLDER CONTAINERS

  module _ (c : ℕ) (i : Container) (has : slice_get p.world.containers.items c ≡ Some i) (lt : c < s.made) where
    ne : c ≢ s.made
    ne e = omega arith

    k : IsContainer p.world s found c i
    k = st.knows.containers.each c i has

    old_alive : u.alive c ≡ s.alive c
    old_alive = at_other s.alive s.made true c ne

    old_uses : u.uses c ≡ s.uses c
    old_uses = at_other s.uses s.made unused c ne

    old_range : u.range c ≡ s.range c
    old_range = at_other s.range s.made s.takes c ne

    old_contents : u.contents c ≡ s.contents c
    old_contents = at_other s.contents s.made contents c ne

    start_same : get_or found' (u.range c) 0 ≡ get_or found (s.range c) 0
    start_same = ap (λ r. get_or found' r 0) old_range ∙ get_old found t.span.start (s.range c) (let r = k.range in let l = st.knows.takes in omega arith)

    -- a dead one whose slot was given again
    same_dead : i.slot.0 ≡ t.slot.0 → s.alive c ≡ false
    same_dead e = ⊎_elim (λ a. absurd (other_slot c i has (alive_is_live s c lt a) e)) (λ d. d) (either_bool (s.alive c))

    not_version : i.slot.0 ≡ t.slot.0 → nat_eq t.version.0 i.version.0 ≡ false
    not_version e =
        let less = k.older (same_dead e) in
        let same : t.version.0 ≡ (place_of p.world.store i.slot.0).version = w.version ∙ ap (λ n. (place_of p.world.store n).version) (sym e) in
        ne_eqb t.version.0 i.version.0 (λ h. omega arith)

    by_slot : {A : Type 0} → (i.slot.0 ≡ t.slot.0 → A) → (i.slot.0 ≢ t.slot.0 → A) → A
    by_slot f h = ⊎_elim f h (cases_eq i.slot.0 t.slot.0)

    live_of : is_live u c ≡ true → is_live s c ≡ true
    live_of e = sym (old_live c ne) ∙ e

    place_at_live : is_live u c ≡ true → place_of store i.slot.0 ≡ place_of p.world.store i.slot.0
    place_at_live e = place_old i.slot.0 (other_slot c i has (live_of e))

    state_at_alive : s.alive c ≡ true → state_of safety i.slot.0 ≡ state_of p.world.safety i.slot.0
    state_at_alive e = made.others i.slot.0 (other_slot c i has (alive_is_live s c lt e))

    old_kept : IsContainer q.world u found' c i
    old_kept = record {
      bind = k.bind ∙ (let a = sym start_same in let b = sym old_contents in λ j. bind_of (a j) (b j));
      range = (let r = k.range in let e = old_range in omega arith);
      life = k.life ∙ sym (at_other s.life s.made life c ne);
      making = (let m = sym (making_old c ne) in
          (k.making.0 ∙ ap (λ (z : Making). z.frame) m, k.making.1 ∙ ap (λ (z : Making). z.name) m, k.making.2 ∙ ap (λ (z : Making). z.line) m));
      named = (let k = k.named in let e = values_long in omega arith);
      alive = by_slot
          (λ e. ap (λ n. is_current (state_of safety n) (tag_of i None)) e ∙ ap (λ z. is_current z (tag_of i None)) made.enrolled ∙ not_version e
          ∙ sym (old_alive ∙ same_dead e))
          (λ n. ap (λ z. is_current z (tag_of i None)) (made.others i.slot.0 n) ∙ k.alive ∙ sym old_alive);
      uses = λ e. let a = sym old_alive ∙ e in
          subst (λ (z : SlotState). StandForUses s.book z.latest (u.uses c)) (sym (state_at_alive a))
          (subst (StandForUses s.book (state_of p.world.safety i.slot.0).latest) (sym old_uses) (k.uses a));
      view = λ e. let a = sym old_alive ∙ e in ap (λ (z : SlotState). z.view) (state_at_alive a) ∙ k.view a ∙ sym (at_other s.view s.made 0 c ne);
      in_use = λ e. ap (λ (z : Place). in_use z.state) (place_at_live e) ∙ k.in_use (live_of e);
      span = λ e. ap (λ (z : Place). z.span) (place_at_live e) ∙ k.span (live_of e)
          ∙ (let a = sym start_same in let b = sym old_contents in λ j. record { start = a j; len = words_of (b j) });
      taken = by_slot
          (λ e. ap (λ n. is_taken (place_of store n).state && nat_eq (place_of store n).version i.version.0) e
          ∙ ap (λ (z : Place). is_taken z.state && nat_eq z.version i.version.0) place_new ∙ not_version e ∙ sym (old_alive ∙ same_dead e))
          (λ n. ap (λ (z : Place). is_taken z.state && nat_eq z.version i.version.0) (place_old i.slot.0 n) ∙ k.taken ∙ sym old_alive);
      older = λ e. by_slot
          (λ h. let less = k.older (same_dead h) in
          let now : (place_of store i.slot.0).version ≡ (place_of p.world.store i.slot.0).version = ap (λ n. (place_of store n).version) h
          ∙ ap (λ (z : Place). z.version) place_new ∙ w.version ∙ ap (λ n. (place_of p.world.store n).version) (sym h) in
          omega arith)
          (λ n. let less = k.older (sym old_alive ∙ e) in let now = ap (λ (z : Place). z.version) (place_old i.slot.0 n) in omega arith);
      low = k.low;
      held = λ dead live.
          let h = k.held (sym old_alive ∙ dead) (live_of live) in record {
            held = ap (λ (z : Place). is_held z.state) (place_at_live live) ∙ h.held;
            latest = h.latest;
            stands = subst (StandForUses s.book h.latest) (sym old_uses) h.stands;
            users = λ j. ap (λ (z : Place). users_of z.state j) (place_at_live live) ∙ h.users j;
          };
    }

  -- THE NEW CONTAINER

  there_is : slice_get containers.items s.made ≡ Some it
  there_is = ap (λ cs. slice_get cs s.made) made.containers_are ∙ ap (slice_get (p.world.containers.items ++ it ∷ [])) (sym length_is)
      ∙ get_last p.world.containers.items it

  no_writer : (n : ℕ) → greatest (λ j. false) n ≡ 0
  no_writer zero = refl
  no_writer (suc n) = no_writer n

  slot_at : it.slot.0 ≡ t.slot.0
  slot_at = ap (λ (z : Slot). z.0) made.slot_is

  version_at : it.version.0 ≡ t.version.0
  version_at = ap (λ (z : Version). z.0) made.version_is

  start_new : get_or found' (u.range s.made) 0 ≡ t.span.start
  start_new = ap (λ r. get_or found' r 0) (at_here s.range s.made s.takes) ∙ get_new found t.span.start s.takes (sym st.knows.takes)

  contents_new : u.contents s.made ≡ contents
  contents_new = at_here s.contents s.made contents

  state_new : state_of safety it.slot.0 ≡ fresh t.version.0
  state_new = ap (state_of safety) slot_at ∙ made.enrolled

  place_is : place_of store it.slot.0 ≡ taken t.version.0 t.span
  place_is = ap (place_of store) slot_at ∙ place_new

  alive_new : u.alive s.made ≡ true
  alive_new = at_here s.alive s.made true

  new_kept : IsContainer q.world u found' s.made it
  new_kept = record {
    bind = made.bind ∙ (let a = sym start_new in let b = sym contents_new in λ j. bind_of (a j) (b j));
    range = (let e = at_here s.range s.made s.takes in omega arith);
    life = made.life_is ∙ sym (at_here s.life s.made life);
    making = (let m = sym making_new in (
      made.frame_is ∙ st.numbers.frame ∙ ap (λ (z : Making). z.frame) m,
      made.name_is ∙ ap (λ (z : Making). z.name) m,
      made.line_is
          ∙ ap (λ (z : Making). z.line) m,
    ));
    named = (let e = made.name_is in let l = values_long in let h = st.knows.each in omega arith);
    alive = ap (λ z. is_current z (tag_of it None)) state_new ∙ eq-eqb t.version.0 it.version.0 (sym version_at) ∙ sym alive_new;
    uses = λ e. subst (λ (z : SlotState). StandForUses s.book z.latest (u.uses s.made)) (sym state_new)
        (subst (StandForUses s.book (fresh t.version.0).latest) (sym (at_here s.uses s.made unused))
        (record { writer = sym (no_writer s.book.count); readers = λ j. refl; settled = λ j h lt. absurd (not_both h refl) }));
    view = λ e. ap (λ (z : SlotState). z.view) state_new ∙ sym (at_here s.view s.made 0);
    in_use = λ e. ap (λ (z : Place). in_use z.state) place_is;
    span = λ e. ap (λ (z : Place). z.span) place_is ∙ (let a = sym start_new in let b = sym contents_new in let l = w.len_is in
        λ j. record { start = a j; len = (l ∙ ap words_of b) j });
    taken = ap (λ (z : Place). is_taken z.state && nat_eq z.version it.version.0) place_is ∙ eq-eqb t.version.0 it.version.0 (sym version_at) ∙ sym alive_new;
    older = λ e. absurd (not_both alive_new e);
    low = (let e = version_at in let v = w.version in let l = st.knows.containers.versions t.slot.0 in omega arith);
    held = λ e live. absurd (not_both alive_new e);
  }

  which : (c : ℕ) (i : Container) → slice_get containers.items c ≡ Some i
      → ((slice_get p.world.containers.items c ≡ Some i) × (c < s.made)) ⊎ ((c ≡ s.made) × (it ≡ i))
  which c i h = ⊎_elim
      (λ l. inl (l.1, (let lt = l.0 in let m = length_is in omega arith)))
      (λ r. one r.0 r.1 r.2)
      (get_either p.world.containers.items (it ∷ []) c i (ap (λ cs. slice_get cs c) (sym made.containers_are) ∙ h))
    where
      one : (n : ℕ) → c ≡ length p.world.containers.items + n → slice_get (it ∷ []) n ≡ Some i
          → ((slice_get p.world.containers.items c ≡ Some i) × (c < s.made)) ⊎ ((c ≡ s.made) × (it ≡ i))
      one zero e h = inr ((let m = length_is in omega arith), some_is h)
      one (suc n) e h = absurd (none_some h)

  kept : (c : ℕ) (i : Container) → slice_get containers.items c ≡ Some i → IsContainer q.world u found' c i
  kept c i h = ⊎_elim (λ o. old_kept c i o.0 o.1) (λ n. subst (IsContainer q.world u found' c) n.1
      (subst (λ c. IsContainer q.world u found' c it) (sym n.0) new_kept))
      (which c i h)

  owned : (slot : ℕ) → in_use (place_of store slot).state ≡ true → IsOwned q.world u slot
  owned slot e = ⊎_elim
      (λ here. record { container = s.made; it = it; has = there_is; slot_is = slot_at ∙ sym here; live = new_live })
      (λ ne.
      let o = st.knows.containers.slots slot (ap (λ (z : Place). in_use z.state) (sym (place_old slot ne)) ∙ e) in
      let lt = below_made s o.container o.live in
      record {
        container = o.container;
        it = o.it;
        has = ap (λ cs. slice_get cs o.container) made.containers_are
            ∙ get_before p.world.containers.items (it ∷ []) o.container (let m = length_is in omega arith)
            ∙ o.has;
        slot_is = o.slot_is;
        live = old_live o.container (λ h. omega arith) ∙ o.live;
      })
      (cases_eq slot t.slot.0)

  once : (c e : ℕ) (i j : Container) → slice_get containers.items c ≡ Some i → slice_get containers.items e ≡ Some j → is_live u c ≡ true → is_live u e ≡ true
      → i.slot.0 ≡ j.slot.0 → c ≡ e
  once c e i j hc he lc le same = ⊎_elim
      (λ oc. ⊎_elim
      (λ oe. st.knows.containers.once c e i j oc.0 oe.0 (sym (old_live c (λ h. let lt = oc.1 in omega arith)) ∙ lc)
      (sym (old_live e (λ h. let lt = oe.1 in omega arith)) ∙ le) same)
      (λ ne. absurd (other_slot c i oc.0 (sym (old_live c (λ h. let lt = oc.1 in omega arith)) ∙ lc)
      (same ∙ ap (λ (z : Container). z.slot.0) (sym ne.1) ∙ slot_at)))
      (which e j he))
      (λ nc. ⊎_elim
      (λ oe. absurd (other_slot e j oe.0 (sym (old_live e (λ h. let lt = oe.1 in omega arith)) ∙ le)
      (sym same ∙ ap (λ (z : Container). z.slot.0) (sym nc.1) ∙ slot_at)))
      (λ ne. nc.0 ∙ sym ne.0)
      (which e j he))
      (which c i hc)

  versions : (slot : ℕ) → (place_of store slot).version ≤ u.made
  versions slot = ⊎_elim
      (λ here. let e = ap (λ k. (place_of store k).version) here in let v = ap (λ (z : Place). z.version) place_new in let o = w.version in
      let l = st.knows.containers.versions t.slot.0 in omega arith)
      (λ ne. let e = ap (λ (z : Place). z.version) (place_old slot ne) in let l = st.knows.containers.versions slot in omega arith)
      (cases_eq slot t.slot.0)

  containers_long : length containers.items ≡ suc (length p.world.containers.items)
  containers_long = ap length made.containers_are ∙ one_more p.world.containers.items it

  containers_stand : AreContainers q.world u found'
  containers_stand = record {
    made = (let e = containers_long in let l = length_is in omega arith);
    each = kept;
    slots = owned;
    once = once;
    versions = versions;
  }

  -- LIVE WORDS

  fewer : (n : ℕ) → n ≤ s.made → live_below u n ≡ live_below s n
  fewer zero le = refl
  fewer (suc n) le =
      let less : n ≢ s.made = λ h. omega arith in
      λ i. fewer n (omega arith) i + cond (old_live n less i) (words_of (at_other s.contents s.made contents n less i)) 0

  words_more : live_words u ≡ live_words s + words_of contents
  words_more =
      (let e : s.made + 1 ≡ suc s.made = omega arith in ap (live_below u) e)
      ∙ (λ i. fewer s.made (omega arith) i + cond (new_live i) (words_of (contents_new i)) 0)

  -- NAMES

  value_at : (m : ℕ) (v : Value) → slice_get values.items m ≡ Some v
      → ((m ≡ name) × (v ≡ Whole (length p.world.containers.items))) ⊎ ((m ≢ name) × (slice_get p.world.values.items m ≡ Some v))
  value_at m v h = set_either p.world.values.items name (Whole (length p.world.containers.items)) m v (ap (λ vs. slice_get vs m) (sym made.values_are) ∙ h)

  named : (m : ℕ) (v : Value) → slice_get values.items m ≡ Some v → value_for p.world.handles.items v ≡ u.values m
  named m v h = ⊎_elim
      (λ new. ap (value_for p.world.handles.items) new.1 ∙ ap states.Whole length_is
      ∙ sym (ap (with_at s.values name (states.Whole s.made)) new.0 ∙ at_here s.values name (states.Whole s.made)))
      (λ old. st.knows.names.are m v old.1 ∙ sym (at_other s.values name (states.Whole s.made) m old.0))
      (value_at m v h)

  more_there : (v : Value) → IsThere (length p.world.containers.items) (length p.world.handles.items) v
      → IsThere (length containers.items) (length p.world.handles.items) v
  more_there Dead h = tt
  more_there (Whole c) h = let e = containers_long in omega arith
  more_there (Slice c start len) h = let lt = h.0 in let e = containers_long in (omega arith, h.1)
  more_there (View c number) h = let e = containers_long in omega arith
  more_there (Handles k) h = h

  there : (m : ℕ) (v : Value) → slice_get values.items m ≡ Some v → IsThere (length containers.items) (length p.world.handles.items) v
  there m v h = ⊎_elim
      (λ new. subst (IsThere (length containers.items) (length p.world.handles.items)) (sym new.1) (let e = containers_long in omega arith))
      (λ old. more_there v (st.knows.names.there m v old.1))
      (value_at m v h)

  handle_old : (m k : ℕ) → slice_get values.items m ≡ Some (Handles k) → slice_get p.world.values.items m ≡ Some (Handles k)
  handle_old m k h = ⊎_elim (λ new. absurd (whole_jobs new.1)) (λ old. old.1) (value_at m (Handles k) h)
    where
      whole_jobs : {k c : ℕ} → Handles k ≡ Whole c → ⊥
      whole_jobs e = cc

  names_stand : AreNames values.items p.world.handles.items (length containers.items) u
  names_stand = record {
    are = named;
    there = there;
    apart = λ a b k ha hb. st.knows.names.apart a b k (handle_old a k ha) (handle_old b k hb);
  }

  -- LIVES

  temps_now : temps.items ≡ and_if (is_temp life) p.world.temps.items s.made
  temps_now = made.temps_are ∙ ap (and_if (is_temp life) p.world.temps.items) length_is

  tempjobs_now : tempjobs.items ≡ and_if (is_tempjob life) p.world.tempjobs.items s.made
  tempjobs_now = made.tempjobs_are ∙ ap (and_if (is_tempjob life) p.world.tempjobs.items) length_is

  life_old : (c : ℕ) → c ≢ s.made → u.life c ≡ s.life c
  life_old c ne = at_other s.life s.made life c ne

  life_new : u.life s.made ≡ life
  life_new = at_here s.life s.made life

  temps_stand : AreTemps temps.items u
  temps_stand = record {
    all = λ c lt temp alive. ⊎_elim
        (λ new. (
          length p.world.temps.items,
          ap (λ ts. slice_get ts (length p.world.temps.items)) temps_now
              ∙ and_last (is_temp life) p.world.temps.items s.made (ap is_temp (sym life_new) ∙ ap (λ d. is_temp (u.life d)) (sym new) ∙ temp)
              ∙ ap Some (sym new),
        ))
        (λ ne. let k = st.knows.temps.all c (omega arith) (ap is_temp (sym (life_old c ne)) ∙ temp) (sym (at_other s.alive s.made true c ne) ∙ alive) in
        (k.0, ap (λ ts. slice_get ts k.0) temps_now ∙ and_before (is_temp life) p.world.temps.items s.made k.0 c k.1))
        (cases_eq c s.made);
    each = λ k c h. ⊎_elim
        (λ old. let e = st.knows.temps.each k c old in
        let lt = e.0 in
        ((omega arith), ap is_temp (life_old c (λ h. omega arith)) ∙ e.1))
        (λ new. let e = new.2 in ((omega arith), ap (λ d. is_temp (u.life d)) (sym new.2) ∙ ap is_temp life_new ∙ new.0))
        (and_either (is_temp life) p.world.temps.items s.made k c (ap (λ ts. slice_get ts k) (sym temps_now) ∙ h));
  }

  job_which : (k c : ℕ) → slice_get tempjobs.items k ≡ Some c
      → (slice_get p.world.tempjobs.items k ≡ Some c) ⊎ ((is_tempjob life ≡ true) × (k ≡ length p.world.tempjobs.items) × (s.made ≡ c))
  job_which k c h = and_either (is_tempjob life) p.world.tempjobs.items s.made k c (ap (λ ts. slice_get ts k) (sym tempjobs_now) ∙ h)

  frame_old : (c : ℕ) → c < s.made → (u.making c).frame ≡ (s.making c).frame
  frame_old c lt = ap (λ (z : Making). z.frame) (making_old c (λ h. omega arith))

  frame_new : (c : ℕ) → c ≡ s.made → (u.making c).frame ≡ s.frame
  frame_new c e = ap (λ d. (u.making d).frame) e ∙ ap (λ (z : Making). z.frame) making_new

  tempjobs_stand : AreTempJobs tempjobs.items p.world.overdue u
  tempjobs_stand = record {
    all = λ c lt temp. ⊎_elim
        (λ new. (
          length p.world.tempjobs.items,
          ap (λ ts. slice_get ts (length p.world.tempjobs.items)) tempjobs_now
              ∙ and_last (is_tempjob life) p.world.tempjobs.items s.made (ap is_tempjob (sym life_new) ∙ ap (λ d. is_tempjob (u.life d)) (sym new) ∙ temp)
              ∙ ap Some (sym new),
        ))
        (λ ne. let k = st.knows.tempjobs.all c (omega arith) (ap is_tempjob (sym (life_old c ne)) ∙ temp) in
        (k.0, ap (λ ts. slice_get ts k.0) tempjobs_now ∙ and_before (is_tempjob life) p.world.tempjobs.items s.made k.0 c k.1))
        (cases_eq c s.made);
    each = λ k c h. ⊎_elim
        (λ old. let e = st.knows.tempjobs.each k c old in
        let lt = e.0 in
        ((omega arith), ap is_tempjob (life_old c (λ h. omega arith)) ∙ e.1))
        (λ new. let e = new.2 in ((omega arith), ap (λ d. is_tempjob (u.life d)) (sym new.2) ∙ ap is_tempjob life_new ∙ new.0))
        (job_which k c h);
    rising = λ k l c d lt hc hd. ⊎_elim
        (λ oc. ⊎_elim
        (λ od. st.knows.tempjobs.rising k l c d lt oc od)
        (λ nd. let e = nd.2 in let b = (st.knows.tempjobs.each k c oc).0 in omega arith)
        (job_which l d hd))
        (λ nc. ⊎_elim
        (λ od. let e = nc.1 in let b = get_below p.world.tempjobs.items l d od in absurd (omega arith))
        (λ nd. let e = nc.1 in let f = nd.1 in absurd (omega arith))
        (job_which l d hd))
        (job_which k c hc);
    within = (let w = st.knows.tempjobs.within in let l = and_long
        (is_tempjob life) p.world.tempjobs.items s.made in let e = ap length tempjobs_now in omega arith);
    past = λ k c lt h. ⊎_elim
        (λ old. let e = frame_old c (st.knows.tempjobs.each k c old).0 in let o = st.knows.tempjobs.past k c lt old in omega arith)
        (λ new. let e = new.1 in let w = st.knows.tempjobs.within in absurd (omega arith))
        (job_which k c h);
    ahead = λ k c le h. ⊎_elim
        (λ old. let e = frame_old c (st.knows.tempjobs.each k c old).0 in let o = st.knows.tempjobs.ahead k c le old in omega arith)
        (λ new. let e = frame_new c (sym new.2) in omega arith)
        (job_which k c h);
  }

  frames_stand : AreFrames u
  frames_stand = record {
    order = λ c d le lt. ⊎_elim
        (λ new. ⊎_elim
        (λ also. let a = frame_new c also in let b = frame_new d new in omega arith)
        (λ ne. let a = frame_old c (omega arith) in let b = frame_new d new in let o = st.knows.frames.past c (omega arith) in omega arith)
        (cases_eq c s.made))
        (λ ne. let a = frame_old c (omega arith) in let b = frame_old d (omega arith) in let o = st.knows.frames.order c d le (omega arith) in omega arith)
        (cases_eq d s.made);
    past = λ c lt. ⊎_elim
        (λ new. let a = frame_new c new in omega arith)
        (λ ne. let a = frame_old c (omega arith) in let o = st.knows.frames.past c (omega arith) in omega arith)
        (cases_eq c s.made);
  }

  -- KERNELS AND NUMBERS

  copy_kept : (k place : ℕ) → IsCopy p g k place → IsCopy q g k place
  copy_kept k place c = record { old = c.old; new = c.new; is_old = c.is_old; is_new = c.is_new; same = c.same }

  guard_kept : (k place : ℕ) → IsGuardedCopy p g k place → IsGuardedCopy q g k place
  guard_kept k place c = record {
    old = c.old;
    new = c.new;
    is_old = c.is_old;
    is_new = c.is_new;
    guarded = c.guarded;
    contents = c.contents;
    words = c.words;
    footprint = c.footprint;
  }

  kernels_stand : AreKernels q g
  kernels_stand = record {
    each = st.kernels.each;
    each_guard = st.kernels.each_guard;
    copies = λ k place h. copy_kept k place (st.kernels.copies k place h);
    guards = λ k place h. guard_kept k place (st.kernels.guards k place h);
    checked = st.kernels.checked;
    coded = st.kernels.coded;
  }

  numbers_stand : AreNumbers q begun (suc n) u
  numbers_stand =
      let k = st.numbers in
      record {
        frame = k.frame;
        passing = k.passing;
        created = made.created_is ∙ ap (λ m. m + words_of contents) k.created;
        before = k.before;
        pieces = k.pieces;
        live_words = w.live ∙ ap (λ m. m + words_of contents) k.live_words ∙ sym words_more;
        frames_few = (let l = k.frames_few in omega arith);
        made_few = (let l = k.made_few in omega arith);
        created_few = (let l = made.small in let e = made.created_is in let f = k.created in omega arith);
        peak_low = (let l = k.peak_low in let e = w.peak in let b = w.low in omega arith);
        slots_few = (let l = k.slots_few in let e = w.used in omega arith);
        ops_few = (let l = k.ops_few in let e = ap length made.ops_are ∙ one_more p.draft.ops.items
            (record { line = line; name = name; act = Fill t.span literal }) in omega arith);
        segments_few = (let l = k.segments_few in omega arith);
        literals_few = (let l = k.literals_few in let e = ap length made.literals_are ∙ length-append p.draft.literals.items made.literals_more in
            let o = made.literals_one in omega arith);
        kernels_few = (let l = k.kernels_few in omega arith);
        handles_few = (let l = k.handles_few in omega arith);
      }

  -- THE PLAN

  agrees_back : (x : Outline) → Agrees q g begun found' x → Agrees p g begun found x
  agrees_back x a = record {
    begins = a.begins;
    names = a.names;
    kernels = a.kernels;
    literals = (
      made.literals_more ++ a.literals.0,
      a.literals.1 ∙ ap (λ l. l ++ a.literals.0) made.literals_are
          ∙ append_assoc p.draft.literals.items made.literals_more a.literals.0,
    );
    first = a.first;
    jobs = a.jobs;
    starts = λ k lt. a.starts k (let e = one_more found t.span.start in omega arith) ∙ get_old found t.span.start k lt;
    cells = (let le = a.cells in let e = w.peak in omega arith);
    small = a.small;
  }

  module _ (fills : (x : Outline) → Agrees q g begun found' x → IsLiteral x.plan t.span literal × FillsAs x.plan t.span literal contents) where
    planned : (x : Outline) → Agrees q g begun found' x → IsPlanned x u (draft_of q)
    planned x a =
        let b = agrees_back x a in
        let start : x.starts s.takes ≡ t.span.start = a.starts s.takes (let e = one_more found t.span.start in let k = st.knows.takes in omega arith)
        ∙ get_new found t.span.start s.takes (sym st.knows.takes) in
        let span : t.span ≡ next_span x s contents = (let st = sym start in let ln = w.len_is in λ i. record { start = st i; len = ln i }) in
        let f = fills x a in
        let alike : is_live_word p.world.store ≡ ranges.is_live_word x.starts s = (λ i w. live_words_are_alike p g begun n s found x.starts st b.starts w i) in
        let shown : name < length x.plan.names = (let e = ap length b.names in omega arith) in
        containers_are_planned x b.small s line name life contents literal name (draft_of p) (draft_of q) (st.planned x b)
        (subst (λ live. IsFirstFit live (words_of contents) (x.starts s.takes)) alike
        (subst (IsFirstFit (is_live_word p.world.store) (words_of contents)) (sym start) w.fit))
        (let le = a.cells in let e = w.peak in omega arith)
        (subst (λ sp. IsLiteral x.plan sp literal) span f.0) (subst (λ sp. FillsAs x.plan sp literal contents) span f.1) shown
        (record {
          segments = refl;
          jobs = refl;
          waits = refl;
          ops = made.ops_are
              ∙ ap (λ sp. p.draft.ops.items ++ record { line = line; name = name; act = Fill sp literal } ∷ []) span;
        })

    pub made_stands : Stands q g begun (suc n) u found'
    made_stands = record {
      knows = record {
        known = record {
          book = st.knows.known.book;
          handles = λ m. ⊎_elim
              (λ e. subst (λ v. AreUpTo s.book.count (states.jobs_of v)) (sym
              (ap (with_at s.values name (states.Whole s.made)) e ∙ at_here s.values name (states.Whole s.made))) (λ j h. absurd (not_both h refl)))
              (λ ne. subst (λ v. AreUpTo s.book.count (states.jobs_of v)) (sym (at_other s.values name (states.Whole s.made) m ne)) (st.knows.known.handles m))
              (cases_eq m name);
          uses = λ c. ⊎_elim
              (λ e. subst (AreUses s.book) (sym (ap u.uses e ∙ at_here s.uses s.made unused))
              (record { users = λ j h. absurd (not_both h refl); writers = λ j h. absurd (not_both h refl) }))
              (λ ne. subst (AreUses s.book) (sym (at_other s.uses s.made unused c ne)) (st.knows.known.uses c))
              (cases_eq c s.made);
        };
        names = names_stand;
        each = values_long ∙ st.knows.each;
        containers = containers_stand;
        takes = (let e = one_more found t.span.start in let k = st.knows.takes in omega arith);
        temps = temps_stand;
        tempjobs = tempjobs_stand;
        frames = frames_stand;
        jobs = st.knows.jobs;
      };
      numbers = numbers_stand;
      kernels = kernels_stand;
      planned = planned;
    }
