-- A planner in which a list got another range stands for the state in which it has another capacity.
use Rattle.std.proofs.Common.{◌≡◌, ◌≢◌, ℕ, zero, suc, ◌+◌, ◌<◌, ◌≤◌, ◌⊎◌, inl, inr, ⊎_elim, true, false, cond, eq-eqb, ne_eqb, ◌&&◌, ℤ, List, [], ◌∷◌, ◌++◌, length, Some, None, Ok, Err, refl, sym, ap, subst, ◌∙◌, arith}
use Rattle.std.specs.Prelude.{nat_eq, nat_lt, if◌then◌else◌, slice_get, slice_set, get_or, Vec}
use Rattle.std.specs.declared.alloc.Global.{Global}
use Rattle.std.proofs.lemmas.Bool.{cases_eq, and_parts}
use Rattle.job_base.specs.declared.Span.{Span}
use Rattle.job_base.specs.declared.Trap.TheVariants.{Range}
use Rattle.job_base.specs.declared.limits.TheConstants.{MOST_CREATED_WORDS}
use Rattle.frame_ast.specs.declared.script.Order.TheVariants.{SetCapacity}
use Rattle.frame_ast.specs.Checks.{refusal}
use Rattle.frame_ast.specs.Contents.{Items, words_of}
use Rattle.frame_ast.specs.Effects.{effect, changed, views_broken, list_broken, regrown}
use Rattle.frame_ast.specs.Orders.{Setting, capacity_in}
use Rattle.frame_ast.specs.Ranges as ranges
use Rattle.frame_ast.specs.Ranges.{IsFirstFit}
use Rattle.frame_ast.specs.States.{ScriptState, with_at, with_contents, container_at, contents_at, is_live, live_words, live_below}
use Rattle.native_list.specs.declared.ListAt.{ListAt}
use Rattle.kernel_exec.specs.declared.binds.Bind.TheVariants.{List as WholeList}
use Rattle.slot_store.specs.declared.slot.Slot.{Slot}
use Rattle.slot_store.specs.declared.slot.Version.{Version}
use Rattle.slot_store.specs.declared.store.SlotStore.{SlotStore}
use Rattle.slot_store.specs.declared.place.Place.{Place}
use Rattle.slot_store.specs.Places.{in_use, is_held, is_taken, users_of}
use Rattle.slot_store.specs.Stores.{place_of, is_live_word, live_words_of, taken}
use Rattle.safety_handle.specs.declared.book.SafetyBook.{SafetyBook}
use Rattle.safety_handle.specs.Entries.{SlotState, state_of}
use Rattle.safety_handle.specs.Uses.{StandForUses}
use Rattle.safety_handle.specs.Checks.{is_current}
use Rattle.frame_core.specs.declared.plan.Act.TheVariants.{Move}
use Rattle.frame_core.specs.declared.plan.Op.{Op}
use Rattle.frame_core.proofs.Small.{not_both, some_is, get_below}
use Rattle.plan_laws.specs.Binds.{bind_of}
use Rattle.plan_laws.specs.Planned.{Outline, IsPlanned}
use Rattle.plan_laws.proofs.Statements.Making.{at_here, at_other, alive_is_live}
use Rattle.plan_laws.proofs.Statements.Moving.{moves_are_planned}
use Rattle.plan_state.specs.declared.state.Container.{Container}
use Rattle.plan_state.specs.declared.state.Planner.{Planner}
use Rattle.plan_statements.specs.Capacity.{HasRegrown, HasBroken}
use Rattle.plan_state.specs.Stands.{IsThere, AreNames, tag_of, IsContainer, IsOwned, AreContainers, IsCopy, IsGuardedCopy, AreKernels, AreNumbers, Agrees, Stands, draft_of}
use Rattle.plan_statements.proofs.Ranges.Entering.{get_new, get_old, one_more}
use Rattle.plan_state.proofs.Naming.{set_either, set_long, get_set, get_other}
use Rattle.plan_statements.proofs.Ranges.Storing.{live_words_are_alike}

-- THE STATE AFTERWARDS

abbrev pub with_capacity : ScriptState → ℕ → ℕ → List ℤ → ScriptState
with_capacity s c cap xs = record s {
  contents = with_at s.contents c (Items cap xs);
  view = with_at s.view c (s.view c + 1);
  takes = s.takes + 1;
  range = with_at s.range c s.takes;
  created = s.created + (cap + 1);
}

pub capacity_is : (g : Setting) (line : ℕ) (s : ScriptState) (name cap old : ℕ) (xs : List ℤ) → contents_at s name ≡ Items old xs → old ≤ cap
    → effect g line s (SetCapacity name cap) ≡ with_capacity s (container_at s name) cap xs
capacity_is g line s name cap old xs is le =
    let c : ℕ = container_at s name in
    let test : nat_lt cap old ≡ false = grind arith in
    let fits : capacity_in (contents_at s name) cap ≡ Ok (Items cap xs) = ap (λ k. capacity_in k cap) is
    ∙ ap (λ b. if b then Err Range else Ok (Items cap xs)) test in
    ap (λ r. regrown name cap (views_broken name (changed name r s))) fits
    ∙ ap (λ k. regrown name cap (list_broken k c (with_contents c (Items cap xs) s))) (at_here s.contents c (Items cap xs))

abbrev span_at : ℕ → ℕ → Span
span_at start len = record { start = start; len = len }

-- THE NEW PLANNER

pub record IsRegrown (p : Planner) (line name c cap old : ℕ) (it now : Container) (span : Span) (store : SlotStore) (safety : SafetyBook)
    (containers : Vec Container Global) (created : ℕ) (ops : Vec Op Global) : Type 0 where
  pub has : slice_get p.world.containers.items c ≡ Some it
  pub store_is : HasRegrown p.world.store store it.slot.0 (cap + 1) span
  pub safety_is : HasBroken p.world.safety safety it.slot.0
  pub bind : now.bind ≡ WholeList (record { start = span.start; cap = cap })
  pub slot_is : now.slot ≡ it.slot
  pub version_is : now.version ≡ it.version
  pub life_is : now.life ≡ it.life
  pub frame_is : now.frame ≡ it.frame
  pub name_is : now.name ≡ it.name
  pub line_is : now.line ≡ it.line
  pub containers_are : containers.items ≡ slice_set p.world.containers.items c now
  pub created_is : created ≡ p.world.created + (cap + 1)
  pub small : created ≤ MOST_CREATED_WORDS
  pub at : ListAt
  pub was : it.bind ≡ WholeList at
  pub ops_are : ops.items ≡ p.draft.ops.items ++ record { line = line; name = name; act = Move (record { start = at.start; len = at.cap + 1 }) span } ∷ []

module _ (p : Planner) (g : Setting) (begun : ScriptState) (n : ℕ) (s : ScriptState) (found : List ℕ)
    (line name c cap old : ℕ) (xs : List ℤ) (it now : Container) (span : Span) (store : SlotStore) (safety : SafetyBook)
    (containers : Vec Container Global) (created : ℕ) (ops : Vec Op Global)
    (st : Stands p g begun n s found) (below : name < length g.names) (c_is : container_at s name ≡ c) (is : s.contents c ≡ Items old xs)
    (alive : s.alive c ≡ true) (le : old ≤ cap)
    (made : IsRegrown p line name c cap old it now span store safety containers created ops) where
  abbrev q : Planner
  q = record p { world = record p.world { store = store; safety = safety; containers = containers; created = created }; draft = record p.draft { ops = ops } }

  abbrev w : ScriptState
  w = with_capacity s c cap xs

  abbrev found' : List ℕ
  found' = found ++ span.start ∷ []

  rg : HasRegrown p.world.store store it.slot.0 (cap + 1) span
  rg = made.store_is

  k : IsContainer p.world s found c it
  k = st.knows.containers.each c it made.has

  c_below : c < s.made
  c_below = let lt = get_below p.world.containers.items c it made.has in let e = st.knows.containers.made in omega arith

  live : is_live s c ≡ true
  live = alive_is_live s c c_below alive

  place_old : (j : ℕ) → j ≢ it.slot.0 → place_of store j ≡ place_of p.world.store j
  place_old j ne = rg.places j ∙ ap (λ b. cond b (taken (place_of p.world.store it.slot.0).version span) (place_of p.world.store j)) (ne_eqb j it.slot.0 ne)

  place_new : place_of store it.slot.0 ≡ taken (place_of p.world.store it.slot.0).version span
  place_new = rg.places it.slot.0 ∙ ap (λ b. cond b (taken (place_of p.world.store it.slot.0).version span) (place_of p.world.store it.slot.0))
      (eq-eqb it.slot.0 it.slot.0 refl)

  was_taken : (is_taken (place_of p.world.store it.slot.0).state ≡ true) × (nat_eq (place_of p.world.store it.slot.0).version it.version.0 ≡ true)
  was_taken = and_parts (is_taken (place_of p.world.store it.slot.0).state) (nat_eq (place_of p.world.store it.slot.0).version it.version.0) (k.taken ∙ alive)

  -- what stays of every slot
  by_slot : {A : ℕ → Type 0} → A it.slot.0 → ((j : ℕ) → j ≢ it.slot.0 → A j) → (j : ℕ) → A j
  by_slot {A} here there j = ⊎_elim (λ e. subst A (sym e) here) (there j) (cases_eq j it.slot.0)

  version_same : (j : ℕ) → (place_of store j).version ≡ (place_of p.world.store j).version
  version_same = by_slot {A = λ j. (place_of store j).version ≡ (place_of p.world.store j).version} (ap (λ (z : Place). z.version) place_new)
      (λ j ne. ap (λ (z : Place). z.version) (place_old j ne))

  taken_same : (j : ℕ) → is_taken (place_of store j).state ≡ is_taken (place_of p.world.store j).state
  taken_same = by_slot {A = λ j. is_taken (place_of store j).state ≡ is_taken (place_of p.world.store j).state}
      (ap (λ (z : Place). is_taken z.state) place_new ∙ sym was_taken.0) (λ j ne. ap (λ (z : Place). is_taken z.state) (place_old j ne))

  in_use_same : (j : ℕ) → in_use (place_of store j).state ≡ in_use (place_of p.world.store j).state
  in_use_same = by_slot {A = λ j. in_use (place_of store j).state ≡ in_use (place_of p.world.store j).state}
      (ap (λ (z : Place). in_use z.state) place_new ∙ sym (k.in_use live)) (λ j ne. ap (λ (z : Place). in_use z.state) (place_old j ne))

  abbrev bumped : SlotState → SlotState
  bumped z = record z { view = z.view + 1 }

  live_same : (j : ℕ) → (state_of safety j).live ≡ (state_of p.world.safety j).live
  live_same = by_slot {A = λ j. (state_of safety j).live ≡ (state_of p.world.safety j).live} (ap (λ (z : SlotState). z.live) made.safety_is.slot_is)
      (λ j ne. ap (λ (z : SlotState). z.live) (made.safety_is.others j ne))

  numbered_same : (j : ℕ) → (state_of safety j).version ≡ (state_of p.world.safety j).version
  numbered_same = by_slot {A = λ j. (state_of safety j).version ≡ (state_of p.world.safety j).version}
      (ap (λ (z : SlotState). z.version) made.safety_is.slot_is)
      (λ j ne. ap (λ (z : SlotState). z.version) (made.safety_is.others j ne))

  current_same : (i : Container) → is_current (state_of safety i.slot.0) (tag_of i None) ≡ is_current (state_of p.world.safety i.slot.0) (tag_of i None)
  current_same i = let a = live_same i.slot.0 in let b = numbered_same i.slot.0 in λ j. a j && nat_eq (b j) i.version.0

  -- OTHER CONTAINERS

  module _ (d : ℕ) (i : Container) (has : slice_get p.world.containers.items d ≡ Some i) (ne : d ≢ c) where
    o : IsContainer p.world s found d i
    o = st.knows.containers.each d i has

    other_slot : is_live s d ≡ true → i.slot.0 ≢ it.slot.0
    other_slot l e = ne (st.knows.containers.once d c i it has made.has l live e)

    range_same : w.range d ≡ s.range d
    range_same = at_other s.range c s.takes d ne

    contents_same : w.contents d ≡ s.contents d
    contents_same = at_other s.contents c (Items cap xs) d ne

    start_same : get_or found' (w.range d) 0 ≡ get_or found (s.range d) 0
    start_same = ap (λ r. get_or found' r 0) range_same ∙ get_old found span.start (s.range d) (let r = o.range in let l = st.knows.takes in omega arith)

    place_same : is_live s d ≡ true → place_of store i.slot.0 ≡ place_of p.world.store i.slot.0
    place_same l = place_old i.slot.0 (other_slot l)

    state_same : s.alive d ≡ true → state_of safety i.slot.0 ≡ state_of p.world.safety i.slot.0
    state_same a = made.safety_is.others i.slot.0 (other_slot (alive_is_live s d
        (let lt = get_below p.world.containers.items d i has in let e = st.knows.containers.made in omega arith) a))

    other_kept : IsContainer q.world w found' d i
    other_kept = record {
      bind = o.bind ∙ (let a = sym start_same in let b = sym contents_same in λ j. bind_of (a j) (b j));
      range = (let r = o.range in let e = range_same in omega arith);
      life = o.life;
      making = o.making;
      named = o.named;
      alive = current_same i ∙ o.alive;
      uses = λ a. subst (λ (z : SlotState). StandForUses s.book z.latest (s.uses d)) (sym (state_same a)) (o.uses a);
      view = λ a. ap (λ (z : SlotState). z.view) (state_same a) ∙ o.view a ∙ sym (at_other s.view c (s.view c + 1) d ne);
      in_use = λ l. in_use_same i.slot.0 ∙ o.in_use l;
      span = λ l. ap (λ (z : Place). z.span) (place_same l) ∙ o.span l ∙ (let a = sym start_same in let b = sym contents_same in
          λ j. record { start = a j; len = words_of (b j) });
      taken = (let a = taken_same i.slot.0 in let b = version_same i.slot.0 in λ j. a j && nat_eq (b j) i.version.0) ∙ o.taken;
      older = λ a. let less = o.older a in let e = version_same i.slot.0 in omega arith;
      low = o.low;
      held = λ dead l.
          let h = o.held dead l in record {
            held = ap (λ (z : Place). is_held z.state) (place_same l) ∙ h.held;
            latest = h.latest;
            stands = h.stands;
            users = λ j. ap (λ (z : Place). users_of z.state j) (place_same l) ∙ h.users j;
          };
    }

  -- THE LIST

  slot_at : now.slot.0 ≡ it.slot.0
  slot_at = ap (λ (z : Slot). z.0) made.slot_is

  version_at : now.version.0 ≡ it.version.0
  version_at = ap (λ (z : Version). z.0) made.version_is

  start_new : get_or found' (w.range c) 0 ≡ span.start
  start_new = ap (λ r. get_or found' r 0) (at_here s.range c s.takes) ∙ get_new found span.start s.takes (sym st.knows.takes)

  contents_new : w.contents c ≡ Items cap xs
  contents_new = at_here s.contents c (Items cap xs)

  state_new : state_of safety now.slot.0 ≡ bumped (state_of p.world.safety it.slot.0)
  state_new = ap (state_of safety) slot_at ∙ made.safety_is.slot_is

  place_is : place_of store now.slot.0 ≡ taken (place_of p.world.store it.slot.0).version span
  place_is = ap (place_of store) slot_at ∙ place_new

  list_kept : IsContainer q.world w found' c now
  list_kept = record {
    bind = made.bind ∙ (let a = sym start_new in let b = sym contents_new in λ j. bind_of (a j) (b j));
    range = (let e = at_here s.range c s.takes in omega arith);
    life = made.life_is ∙ k.life;
    making = (made.frame_is ∙ k.making.0, made.name_is ∙ k.making.1, made.line_is ∙ k.making.2);
    named = (let e = made.name_is in let l = k.named in omega arith);
    alive = (let v = version_at in let z = state_new in λ j. (z j).live && nat_eq (z j).version (v j)) ∙ k.alive;
    uses = λ a. subst (λ (z : SlotState). StandForUses s.book z.latest (s.uses c)) (sym state_new) (k.uses a);
    view = λ a. ap (λ (z : SlotState). z.view) state_new ∙ ap (λ m. m + 1) (k.view alive) ∙ sym (at_here s.view c (s.view c + 1));
    in_use = λ l. ap (λ (z : Place). in_use z.state) place_is;
    span = λ l. ap (λ (z : Place). z.span) place_is ∙ (let a = sym start_new in let b = sym contents_new in let e = rg.len_is in
        λ j. record { start = a j; len = (e ∙ ap words_of b) j });
    taken = (let v = version_at in let z = place_is in λ j. is_taken (z j).state && nat_eq (z j).version (v j)) ∙ was_taken.1 ∙ sym alive;
    older = λ e. absurd (not_both alive e);
    low = (let e = version_at in let l = k.low in omega arith);
    held = λ e l. absurd (not_both alive e);
  }

  -- ALL OF THEM

  which : (d : ℕ) (i : Container) → slice_get containers.items d ≡ Some i → ((d ≡ c) × (now ≡ i)) ⊎ ((d ≢ c) × (slice_get p.world.containers.items d ≡ Some i))
  which d i h = ⊎_elim (λ a. inl (a.0, sym a.1)) (λ b. inr b) (set_either p.world.containers.items c now d i
      (ap (λ cs. slice_get cs d) (sym made.containers_are) ∙ h))

  kept : (d : ℕ) (i : Container) → slice_get containers.items d ≡ Some i → IsContainer q.world w found' d i
  kept d i h = ⊎_elim
      (λ a. subst (IsContainer q.world w found' d) a.1 (subst (λ e. IsContainer q.world w found' e now) (sym a.0) list_kept))
      (λ b. other_kept d i b.1 b.0)
      (which d i h)

  -- its slot is as before
  old_of : (d : ℕ) (i : Container) → slice_get containers.items d ≡ Some i
      → (o : Container) × (slice_get p.world.containers.items d ≡ Some o) × (o.slot.0 ≡ i.slot.0)
  old_of d i h = ⊎_elim
      (λ a. (it, ap (slice_get p.world.containers.items) a.0 ∙ made.has, sym slot_at ∙ ap (λ (z : Container). z.slot.0) a.1))
      (λ b. (i, b.1, refl))
      (which d i h)

  owned : (slot : ℕ) → in_use (place_of store slot).state ≡ true → IsOwned q.world w slot
  owned slot e =
      let o = st.knows.containers.slots slot (sym (in_use_same slot) ∙ e) in
      ⊎_elim
      (λ a. record {
        container = o.container;
        it = now;
        has = ap (λ cs. slice_get cs o.container) made.containers_are ∙ ap (slice_get (slice_set p.world.containers.items c now)) a
            ∙ get_set p.world.containers.items c now (get_below p.world.containers.items c it made.has);
        slot_is = slot_at ∙ ap (λ (z : Container). z.slot.0) (some_is (sym made.has ∙ ap (slice_get p.world.containers.items) (sym a) ∙ o.has)) ∙ o.slot_is;
        live = o.live;
      })
      (λ ne. record {
        container = o.container;
        it = o.it;
        has = ap (λ cs. slice_get cs o.container) made.containers_are ∙ get_other p.world.containers.items c now o.container ne ∙ o.has;
        slot_is = o.slot_is;
        live = o.live;
      })
      (cases_eq o.container c)

  once : (d e : ℕ) (i j : Container) → slice_get containers.items d ≡ Some i → slice_get containers.items e ≡ Some j → is_live w d ≡ true → is_live w e ≡ true
      → i.slot.0 ≡ j.slot.0 → d ≡ e
  once d e i j hd he ld le same =
      let a = old_of d i hd in
      let b = old_of e j he in
      st.knows.containers.once d e a.0 b.0 a.1 b.1 ld le (a.2 ∙ same ∙ sym b.2)

  containers_long : length containers.items ≡ length p.world.containers.items
  containers_long = ap length made.containers_are ∙ set_long p.world.containers.items c now

  containers_stand : AreContainers q.world w found'
  containers_stand = record {
    made = containers_long ∙ st.knows.containers.made;
    each = kept;
    slots = owned;
    once = once;
    versions = λ slot. let e = version_same slot in let l = st.knows.containers.versions slot in omega arith;
  }

  -- LIVE WORDS

  abbrev if_below : ℕ → ℕ → ℕ
  if_below m words = if nat_lt c m then words else 0

  counted : (m : ℕ) → m ≤ s.made → live_below w m + if_below m (old + 1) ≡ live_below s m + if_below m (cap + 1)
  counted zero l =
      let no : nat_lt c 0 ≡ false = grind arith in
      ap (λ b. 0 + (if b then old + 1 else 0)) no ∙ sym (ap (λ b. 0 + (if b then cap + 1 else 0)) no)
  counted (suc m) l = ⊎_elim
      (λ e.
      let rest = counted m (omega arith) in
      let no : nat_lt c m ≡ false = grind arith in
      let yes : nat_lt c (suc m) ≡ true = grind arith in
      let a : if_below m (old + 1) ≡ 0 = ap (λ b. if b then old + 1 else 0) no in
      let b : if_below m (cap + 1) ≡ 0 = ap (λ b. if b then cap + 1 else 0) no in
      let d : if_below (suc m) (old + 1) ≡ old + 1 = ap (λ b. if b then old + 1 else 0) yes in
      let f : if_below (suc m) (cap + 1) ≡ cap + 1 = ap (λ b. if b then cap + 1 else 0) yes in
      let ls : (if is_live s m then words_of (s.contents m) else 0) ≡ old + 1 =
      ap (λ j. if is_live s j then words_of (s.contents j) else 0) e ∙ (λ i. if live i then words_of (is i) else 0) in
      let lw : (if is_live w m then words_of (w.contents m) else 0) ≡ cap + 1 =
      ap (λ j. if is_live w j then words_of (w.contents j) else 0) e ∙ (λ i. if live i then words_of (contents_new i) else 0) in
      omega arith)
      (λ ne.
      let rest = counted m (omega arith) in
      let same : nat_lt c (suc m) ≡ nat_lt c m = next m ne in
      let a : if_below (suc m) (old + 1) ≡ if_below m (old + 1) = ap (λ b. if b then old + 1 else 0) same in
      let b : if_below (suc m) (cap + 1) ≡ if_below m (cap + 1) = ap (λ b. if b then cap + 1 else 0) same in
      let f : (if is_live w m then words_of (w.contents m) else 0) ≡ (if is_live s m then words_of (s.contents m) else 0) =
      ap (λ z. if is_live s m then words_of z else 0) (at_other s.contents c (Items cap xs) m ne) in
      omega arith)
      (cases_eq m c)
    where
      next : (m : ℕ) → m ≢ c → nat_lt c (suc m) ≡ nat_lt c m
      next m ne = ⊎_elim
          (λ lt. (let a : nat_lt c (suc m) ≡ true = grind arith in a) ∙ sym (let b : nat_lt c m ≡ true = grind arith in b))
          (λ ge. (let a : nat_lt c (suc m) ≡ false = grind arith in a) ∙ sym (let b : nat_lt c m ≡ false = grind arith in b))
          (Rattle.std.proofs.lemmas.Bool.cases_lt c m)

  words_are : live_words w + (old + 1) ≡ live_words s + (cap + 1)
  words_are =
      let all = counted s.made (omega arith) in
      let lt = c_below in
      let yes : nat_lt c s.made ≡ true = grind arith in
      let d : if_below s.made (old + 1) ≡ old + 1 = ap (λ b. if b then old + 1 else 0) yes in
      let f : if_below s.made (cap + 1) ≡ cap + 1 = ap (λ b. if b then cap + 1 else 0) yes in
      omega arith

  old_len : (place_of p.world.store it.slot.0).span.len ≡ old + 1
  old_len = ap (λ (z : Span). z.len) (k.span live) ∙ ap words_of is

  live_words_stand : live_words_of store ≡ live_words w
  live_words_stand = let a = rg.live in let b = words_are in let d = st.numbers.live_words in let e = old_len in omega arith

  -- NAMES, KERNELS AND NUMBERS

  names_stand : AreNames p.world.values.items p.world.handles.items (length containers.items) w
  names_stand = record {
    are = st.knows.names.are;
    there = λ m v h. subst (λ l. IsThere l (length p.world.handles.items) v) (sym containers_long) (st.knows.names.there m v h);
    apart = st.knows.names.apart;
  }

  copy_kept : (j place : ℕ) → IsCopy p g j place → IsCopy q g j place
  copy_kept j place x = record { old = x.old; new = x.new; is_old = x.is_old; is_new = x.is_new; same = x.same }

  guard_kept : (j place : ℕ) → IsGuardedCopy p g j place → IsGuardedCopy q g j place
  guard_kept j place x = record {
    old = x.old;
    new = x.new;
    is_old = x.is_old;
    is_new = x.is_new;
    guarded = x.guarded;
    contents = x.contents;
    words = x.words;
    footprint = x.footprint;
  }

  kernels_stand : AreKernels q g
  kernels_stand = record {
    each = st.kernels.each;
    each_guard = st.kernels.each_guard;
    copies = λ j place h. copy_kept j place (st.kernels.copies j place h);
    guards = λ j place h. guard_kept j place (st.kernels.guards j place h);
    checked = st.kernels.checked;
    coded = st.kernels.coded;
  }

  numbers_stand : AreNumbers q begun (suc n) w
  numbers_stand =
      let k = st.numbers in
      record {
        frame = k.frame;
        passing = k.passing;
        created = made.created_is ∙ ap (λ m. m + (cap + 1)) k.created;
        before = k.before;
        pieces = k.pieces;
        live_words = live_words_stand;
        frames_few = (let l = k.frames_few in omega arith);
        made_few = (let l = k.made_few in omega arith);
        created_few = (let l = made.small in let e = made.created_is in let f = k.created in omega arith);
        peak_low = (let l = k.peak_low in let e = rg.peak in let b = rg.low in omega arith);
        slots_few = (let l = k.slots_few in let e = rg.used in omega arith);
        ops_few = (let l = k.ops_few in let e = ap length made.ops_are ∙ one_more p.draft.ops.items
            (record { line = line; name = name; act = Move (record { start = made.at.start; len = made.at.cap + 1 }) span }) in omega arith);
        segments_few = (let l = k.segments_few in omega arith);
        literals_few = (let l = k.literals_few in omega arith);
        kernels_few = (let l = k.kernels_few in omega arith);
        handles_few = (let l = k.handles_few in omega arith);
      }

  -- THE PLAN

  agrees_back : (x : Outline) → Agrees q g begun found' x → Agrees p g begun found x
  agrees_back x a = record {
    begins = a.begins;
    names = a.names;
    kernels = a.kernels;
    literals = a.literals;
    first = a.first;
    jobs = a.jobs;
    starts = λ j lt. a.starts j (let e = one_more found span.start in omega arith) ∙ get_old found span.start j lt;
    cells = (let l = a.cells in let e = rg.peak in omega arith);
    small = a.small;
  }

  -- where the list was
  at_is : WholeList made.at ≡ bind_of (get_or found (s.range c) 0) (Items old xs)
  at_is = sym made.was ∙ k.bind ∙ ap (bind_of (get_or found (s.range c) 0)) is

  list_at : made.at ≡ record { start = get_or found (s.range c) 0; cap = old }
  list_at = let e = at_is in cc

  planned : refusal g s (SetCapacity name cap) ≡ None → (x : Outline) → Agrees q g begun found' x → IsPlanned x w (draft_of q)
  planned none x a =
      let b = agrees_back x a in
      let start : x.starts s.takes ≡ span.start = a.starts s.takes (let e = one_more found span.start in let k = st.knows.takes in omega arith)
      ∙ get_new found span.start s.takes (sym st.knows.takes) in
      let was : x.starts (s.range (container_at s name)) ≡ get_or found (s.range c) 0 = ap (λ d. x.starts (s.range d)) c_is
      ∙ b.starts (s.range c) (let r = k.range in let l = st.knows.takes in omega arith) in
      let alike : is_live_word p.world.store ≡ ranges.is_live_word x.starts s = (λ i v. live_words_are_alike p g begun n s found x.starts st b.starts v i) in
      let shown : name < length x.plan.names = (let e = ap length b.names in omega arith) in
      let from : span_at made.at.start (made.at.cap + 1) ≡ span_at (x.starts (s.range (container_at s name))) (old + 1) =
      (let e = list_at in let f = sym was in λ i. span_at ((ap (λ (z : ListAt). z.start) e ∙ f) i) ((ap (λ (z : ListAt). z.cap) e) i + 1)) in
      let to : span ≡ span_at (x.starts s.takes) (cap + 1) = (let e = sym start in let l = rg.len_is in λ i. span_at (e i) (l i)) in
      subst (λ z. IsPlanned x z (draft_of q)) (capacity_is g line s name cap old xs (ap s.contents c_is ∙ is) le ∙ ap (λ d. with_capacity s d cap xs) c_is)
      (moves_are_planned x g s line name cap old xs (draft_of p) (draft_of q) b.small st.knows.known (st.planned x b) none
      (subst (λ d. d < s.made) (sym c_is) c_below)
      (ap s.contents c_is ∙ is)
      (subst (λ f. IsFirstFit f (cap + 1) (x.starts s.takes)) alike (subst (IsFirstFit (is_live_word p.world.store) (cap + 1)) (sym start) rg.fit))
      (let l = a.cells in let e = rg.peak in omega arith)
      shown
      (record {
        segments = refl;
        jobs = refl;
        waits = refl;
        ops = made.ops_are
            ∙ (λ i. p.draft.ops.items ++ record { line = line; name = name; act = Move (from i) (to i) } ∷ []);
      }))

  pub regrown_stands : refusal g s (SetCapacity name cap) ≡ None → Stands q g begun (suc n) w found'
  regrown_stands none = record {
    knows = record {
      known = record { book = st.knows.known.book; handles = st.knows.known.handles; uses = st.knows.known.uses };
      names = names_stand;
      each = st.knows.each;
      containers = containers_stand;
      takes = (let e = one_more found span.start in let k = st.knows.takes in omega arith);
      temps = record { all = st.knows.temps.all; each = st.knows.temps.each };
      tempjobs = record {
        all = st.knows.tempjobs.all;
        each = st.knows.tempjobs.each;
        rising = st.knows.tempjobs.rising;
        within = st.knows.tempjobs.within;
        past = st.knows.tempjobs.past;
        ahead = st.knows.tempjobs.ahead;
      };
      frames = record { order = st.knows.frames.order; past = st.knows.frames.past };
      jobs = st.knows.jobs;
    };
    numbers = numbers_stand;
    kernels = kernels_stand;
    planned = planned none;
  }
