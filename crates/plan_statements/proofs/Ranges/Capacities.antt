-- What an accepted `setcapacity` is of: the name of a list.
use Rattle.std.proofs.Common.{◌≡◌, ◌≢◌, ℕ, zero, suc, ◌+◌, ◌<◌, ◌≤◌, ⊎_elim, Bool, true, false, ◌&&◌, not, ℤ, List, [], ◌∷◌, ◌++◌, length, take, Option, Some, None, Ok, Err, refl, sym, ap, subst, ◌∙◌, arith}
use Rattle.std.specs.Prelude.{◌↔◌, IsTrue, vec_len, slice_get, get_or, nat_eq, nat_lt, nat_le, if◌then◌else◌}
use Rattle.std.proofs.lemmas.Bool.{and_parts, leb-true, cases_eq, cases_lt, eq-eqb, ne_eqb}
use Rattle.job_base.specs.declared.Refusal.{Refusal}
use Rattle.job_base.specs.declared.Span.{Span}
use Rattle.job_base.specs.declared.Refusal.TheVariants.{StoreFull, Range as PastRange}
use Rattle.job_base.specs.declared.Trap.TheVariants.{Range}
use Rattle.job_base.specs.declared.limits.TheConstants.{MOST_STATEMENTS, MOST_ELEMENTS, MOST_LIVE_WORDS, MOST_CREATED_WORDS}
use Rattle.frame_ast.specs.declared.name_kind.NameKind.TheVariants.{List as ListName}
use Rattle.frame_ast.specs.declared.script.Order.TheVariants.{SetCapacity}
use Rattle.frame_ast.specs.declared.script.Script.{Script}
use Rattle.frame_ast.specs.declared.script.Statement.{Statement}
use Rattle.frame_ast.specs.Accepted.{Names, uses}
use Rattle.frame_ast.specs.Checks.{refusal}
use Rattle.frame_ast.specs.Conflicts.{Need}
use Rattle.frame_ast.specs.Contents.{Contents, Cells as Elements, Single, Items, Pairs, Entries}
use Rattle.frame_ast.specs.Kinds.{kind_of, IsOfKind}
use Rattle.frame_ast.specs.Laws.{IsLikeBefore, is_list_now, breaks_views_of}
use Rattle.frame_ast.specs.Lists.{first_some}
use Rattle.frame_ast.specs.Orders.{Table, Setting, setting, capacity_in}
use Rattle.frame_ast.specs.Refusals.{Refused, refused, disposed, stale, pending, store_full, unchanged, access}
use Rattle.frame_ast.specs.Schedules.{need_of}
use Rattle.frame_ast.specs.Scripts.{act, act_or_pass, decided}
use Rattle.frame_ast.specs.States.{ScriptState, is_alive, container_of, container_at, contents_at, live_words}
use Rattle.frame_ast.proofs.Breaking.{view_numbers_are_few}
use Rattle.frame_ast.proofs.NameKinds.{first_none, lives}
use Rattle.frame_ast.proofs.Naming.{one_kind, is_used}
use Rattle.frame_ast.proofs.Refusing.{refused_changes_little}
use Rattle.native_list.specs.declared.ListAt.{ListAt}
use Rattle.kernel_exec.specs.declared.binds.Bind.TheVariants.{List as WholeList}
use Rattle.job_handle.specs.declared.handle.Handle.{Handle}
use Rattle.slot_store.specs.Places.{is_taken}
use Rattle.slot_store.specs.Stores.{place_of, live_words_of}
use Rattle.safety_handle.specs.declared.book.SafetyBook.{SafetyBook}
use Rattle.safety_handle.specs.Entries.{SlotState, state_of}
use Rattle.frame_core.specs.declared.plan.Act.TheVariants.{Say, Move}
use Rattle.frame_core.proofs.Small.{not_both, some_is, none_some, get_below}
use Rattle.plan_laws.specs.Binds.{bind_of}
use Rattle.plan_laws.proofs.Statements.Making.{alive_is_live}
use Rattle.plan_state.specs.declared.state.Value.{Value}
use Rattle.plan_state.specs.declared.state.Value.TheVariants.{Dead, Whole, Slice, View, Jobs as Handles}
use Rattle.plan_state.specs.declared.state.Container.{Container}
use Rattle.plan_state.specs.declared.state.Draft.{Draft}
use Rattle.plan_state.specs.declared.state.Planner.{Planner}
use Rattle.plan_state.specs.declared.state.World.{World}
use Rattle.plan_state.specs.Accesses.{IsPushed, MayUse, refused_as}
use Rattle.plan_state.specs.Answers.{HasOp}
use Rattle.plan_state.specs.Stands.{jobs_at, value_for, AreNames, IsContainer, Stands}
use Rattle.plan_state.specs.Steps.{state_at, IsBefore, HasStepped}
use Rattle.plan_statements.specs.Capacity.{IsWhole, IsList, HasBroken, IsMoved}
use Rattle.plan_state.proofs.Accessing.{there, read_some}
use Rattle.plan_statements.proofs.Ranges.NewContainers.{is_full, not_full}
use Rattle.plan_state.proofs.Naming.{same_names}
use Rattle.plan_state.proofs.Quiet.{given_one, refused_steps}
use Rattle.plan_statements.proofs.Ranges.Ranging.{range_steps}
use Rattle.plan_state.proofs.Reaching.{holds_kinds, fits_at, used_below, statements_few, known_after, within}
use Rattle.plan_state.proofs.Restating.{IsRestated, changed_fields, like_state, one_op_more, quiet_restated, refused_stands}
use Rattle.plan_statements.proofs.Ranges.Regrowing.{with_capacity, capacity_is, regrown_stands}

-- THE CAUSES OF A USE, and those after them

pub access_some : (s : ScriptState) (name : ℕ) (need : Need) (more : List (Option Refused)) (r : Refused) → access s name need [] ≡ Some r
    → access s name need more ≡ Some r
unfolding first_some
access_some s name need more r = by (disposed s (name ∷ [])) (stale s (name ∷ [])) (pending s Rattle.frame_ast.specs.Jobs.nobody (need ∷ []))
  where
    by : (a b c : Option Refused) → first_some (a ∷ b ∷ c ∷ []) ≡ Some r → first_some (a ∷ b ∷ c ∷ more) ≡ Some r
    by (Some a) b c e = e
    by None (Some b) c e = e
    by None None (Some c) e = e
    by None None None e = absurd (none_some e)

pub access_none : (s : ScriptState) (name : ℕ) (need : Need) (more : List (Option Refused)) → access s name need [] ≡ None
    → access s name need more ≡ first_some more
unfolding first_some
access_none s name need more = by (disposed s (name ∷ [])) (stale s (name ∷ [])) (pending s Rattle.frame_ast.specs.Jobs.nobody (need ∷ []))
  where
    by : (a b c : Option Refused) → first_some (a ∷ b ∷ c ∷ []) ≡ None → first_some (a ∷ b ∷ c ∷ more) ≡ first_some more
    by (Some a) b c e = absurd cc
    by None (Some b) c e = absurd cc
    by None None (Some c) e = absurd cc
    by None None None e = refl

-- THE NAME

list_contents : (c : Contents) → ListName ≡ kind_of c → (old : ℕ) × (xs : List ℤ) × (c ≡ Items old xs)
list_contents (Elements xs) e = absurd cc
list_contents (Single z) e = absurd cc
list_contents (Items old xs) e = (old, xs, refl)
list_contents (Pairs cap ps) e = absurd cc
list_contents (Entries room es) e = absurd cc

module _ {script : Script} {table : Table} {p : Planner} {line name cap : ℕ}
    (b : IsBefore script table p (record { line = line; act = SetCapacity name cap })) where
  open b use {begun, n, found, step, stands as st}

  abbrev g : Setting
  g = setting script table

  abbrev s : ScriptState
  s = state_at script table n

  -- it is the name of a list
  record IsNamed : Type 0 where
    pub below : name < length g.names
    pub small : cap ≤ MOST_ELEMENTS
    pub of : IsOfKind s ListName (s.values name)

  named : IsNamed
  named =
      let x : Statement = record { line = line; act = SetCapacity name cap } in
      let f = fits_at step in
      let ns : Names = record { kinds = step.accepted.kinds; made = f.made } in
      let both = and_parts (uses ns name (ListName ∷ [])) (nat_le cap MOST_ELEMENTS) f.fits in
      let used = is_used ns name (ListName ∷ []) both.0 in
      let holds = holds_kinds step in
      record {
        below = used_below step f.made name (ListName ∷ []) both.0;
        small = leb-true cap MOST_ELEMENTS both.1;
        of = subst (λ k. IsOfKind s k (s.values name)) (one_kind used.kind ListName used.fits) (holds.names name used.kind used.at);
      }

  pub capacity_below : name < length g.names
  capacity_below = named.below

  pub capacity_small : cap ≤ MOST_ELEMENTS
  capacity_small = named.small

  -- THE LIST, where the use isn't refused
  pub record HasList : Type 0 where
    pub c : ℕ
    pub it : Container
    pub old : ℕ
    pub xs : List ℤ
    pub value : slice_get p.world.values.items name ≡ Some (Whole c)
    pub has : slice_get p.world.containers.items c ≡ Some it
    pub c_is : container_at s name ≡ c
    pub contents : s.contents c ≡ Items old xs
    pub alive : s.alive c ≡ true

  list_of_value : (v : Value) → slice_get p.world.values.items name ≡ Some v → value_for p.world.handles.items v ≡ s.values name
      → IsOfKind s ListName (value_for p.world.handles.items v) → is_alive s (value_for p.world.handles.items v) ≡ true → HasList
  list_of_value Dead h e of alive = absurd (not_both alive refl)
  list_of_value (Whole c) h e of alive =
      let it = there p.world.containers.items c (let lt = of.1 in let m = st.knows.containers.made in omega arith) in
      let l = list_contents (s.contents c) of.0 in
      record { c = c; it = it.0; old = l.0; xs = l.1; value = h; has = it.1; c_is = ap container_of (sym e); contents = l.2; alive = alive }
  list_of_value (Slice c start len) h e of alive = absurd (let k = of.0 in cc)
  list_of_value (View c number) h e of alive = absurd (let k = of.0 in cc)
  list_of_value (Handles k) h e of alive = absurd (gone (slice_get p.world.handles.items k) alive)
    where
      gone : (o : Option Handle) → is_alive s (jobs_at o) ≡ true → ⊥
      gone None a = not_both a refl
      gone (Some j) a = not_both a refl

  pub has_list : access s name (need_of s name true) [] ≡ None → HasList
  has_list none =
      let v = there p.world.values.items name (let lt = named.below in let e = st.knows.each in omega arith) in
      let e = st.knows.names.are name v.0 v.1 in
      let alive = lives s name (first_none (disposed s (name ∷ [])) _ none).0 in
      list_of_value v.0 v.1 e (subst (IsOfKind s ListName) (sym e) named.of) (ap (is_alive s) e ∙ alive)

  pub whole_is : {a b : ℕ} → Whole a ≡ Whole b → a ≡ b
  whole_is e = cc

  -- as the code reads it
  abbrev pub list_read : access s name (need_of s name true) [] ≡ None → (v : Value) (number : ℕ) (it : Container)
      → slice_get p.world.values.items name ≡ Some v
      → v ≡ Whole number
      → slice_get p.world.containers.items number ≡ Some it → HasList
  list_read none v number it value is has =
      let l = has_list none in
      let same : number ≡ l.c = whole_is (sym is ∙ some_is (sym value ∙ l.value)) in
      record {
        c = number;
        it = it;
        old = l.old;
        xs = l.xs;
        value = value ∙ ap Some is;
        has = has;
        c_is = l.c_is ∙ sym same;
        contents = ap s.contents same ∙ l.contents;
        alive = ap s.alive same ∙ l.alive;
      }

  pub is_whole : access s name (need_of s name true) [] ≡ None → (v : Value) → slice_get p.world.values.items name ≡ Some v → IsWhole v
  is_whole none v value = let l = has_list none in subst IsWhole (some_is (sym l.value ∙ value)) tt

  pub whole_below : access s name (need_of s name true) [] ≡ None → (v : Value) (number : ℕ) → slice_get p.world.values.items name ≡ Some v → v ≡ Whole number
      → number < length p.world.containers.items
  whole_below none v number value is = st.knows.names.there name (Whole number) (value ∙ ap Some is)

  -- the use isn't refused
  pub unblocked : (answer : Option Refusal) → MayUse p.world name true answer → ((r : Refusal) → answer ≡ Some r → ⊥)
      → access s name (need_of s name true) [] ≡ None
  unblocked answer may not = sym (may g s found st.knows) ∙ ap (λ o. refused_as o name) (none_of answer not)
    where
      none_of : (o : Option Refusal) → ((r : Refusal) → o ≡ Some r → ⊥) → o ≡ None
      none_of None not = refl
      none_of (Some r) not = absurd (not r refl)

  pub name_read : (v : Value) → v ≡ get_or p.world.values.items name v → slice_get p.world.values.items name ≡ Some v
  name_read v e = read_some p.world.values name v (within st name named.below) e

  -- the list, where the code read the name and the container
  module _ (answer : Option Refusal) (not : (r : Refusal) → answer ≡ Some r → ⊥) (may : MayUse p.world name true answer) (v : Value)
      (v_is : v ≡ get_or p.world.values.items name v) where
    pub read_whole : IsWhole v
    read_whole = is_whole (unblocked answer may not) v (name_read v v_is)

    module _ (number : ℕ) (is : v ≡ Whole number) where
      pub read_below : number < vec_len p.world.containers
      read_below = let lt = whole_below (unblocked answer may not) v number (name_read v v_is) is in let len = p.world.containers.ok.0 in omega arith

      module _ (it : Container) (it_is : it ≡ get_or p.world.containers.items number it) where
        abbrev pub list_at : HasList
        list_at = list_read (unblocked answer may not) v number it (name_read v v_is) is (read_some p.world.containers number it read_below it_is)

  module _ (l : HasList) where
    k : IsContainer p.world s found l.c l.it
    k = st.knows.containers.each l.c l.it l.has

    -- where its words are
    pub bind_is : l.it.bind ≡ WholeList (record { start = get_or found (s.range l.c) 0; cap = l.old })
    bind_is = k.bind ∙ ap (bind_of (get_or found (s.range l.c) 0)) l.contents

    pub cap_is : (at : ListAt) → l.it.bind ≡ WholeList at → at.cap ≡ l.old
    cap_is at e = let same = sym e ∙ bind_is in let is : at ≡ record { start = get_or found (s.range l.c) 0; cap = l.old } = cc in ap (λ (z : ListAt). z.cap) is

    pub is_list : IsList l.it.bind
    is_list = subst IsList (sym bind_is) tt

    pub is_list_taken : is_taken (place_of p.world.store l.it.slot.0).state ≡ true
    is_list_taken = (and_parts (is_taken (place_of p.world.store l.it.slot.0).state) _ (k.taken ∙ l.alive)).0

    pub is_list_live : (state_of p.world.safety l.it.slot.0).live ≡ true
    is_list_live = (and_parts (state_of p.world.safety l.it.slot.0).live _ (k.alive ∙ l.alive)).0

    pub few_views : (state_of p.world.safety l.it.slot.0).view < MOST_STATEMENTS
    few_views =
        let e = k.view l.alive in
        let few = view_numbers_are_few g (take n script.statements.items) l.c in
        let len = taken_long n script.statements.items in
        let small = statements_few step in
        omega arith
      where
        taken_long : {A : Type 0} (n : ℕ) (xs : List A) → length (take n xs) ≤ n
        taken_long zero xs = omega arith
        taken_long (suc n) [] = omega arith
        taken_long (suc n) (x ∷ xs) = let h = taken_long n xs in omega arith

  -- REFUSED, OR NOT

  pub fits_live : (full : Bool) (words : ℕ) → words ≡ cap + 1 → (IsTrue full ↔ (MOST_LIVE_WORDS < live_words_of p.world.store + words)) → full ≡ false
      → live_words s + (cap + 1) ≤ MOST_LIVE_WORDS
  fits_live full words e decides is = ⊎_elim
      (λ lt. absurd (not_both (decides.1 lt) is))
      (λ le. let k = st.numbers.live_words in omega arith)
      (cases_lt MOST_LIVE_WORDS (live_words_of p.world.store + words))

  pub refused_by : (r : Refused) → access s name (need_of s name true) [] ≡ Some r → refusal g s (SetCapacity name cap) ≡ Some r
  refused_by r e = access_some s name (need_of s name true) (store_full s (cap + 1) name ∷ unchanged name (capacity_in (contents_at s name) cap) ∷ []) r e

  module _ (none : access s name (need_of s name true) [] ≡ None) where
    rest_is : refusal g s (SetCapacity name cap) ≡ first_some (store_full s (cap + 1) name ∷ unchanged name (capacity_in (contents_at s name) cap) ∷ [])
    rest_is = access_none s name (need_of s name true) (store_full s (cap + 1) name ∷ unchanged name (capacity_in (contents_at s name) cap) ∷ []) none

    pub refused_full : MOST_LIVE_WORDS < live_words s + (cap + 1) → refusal g s (SetCapacity name cap) ≡ Some (refused StoreFull name)
    unfolding first_some
    refused_full lt = rest_is ∙ ap (λ o. first_some (o ∷ unchanged name (capacity_in (contents_at s name) cap) ∷ [])) (is_full s (cap + 1) name lt)

    module _ (le : live_words s + (cap + 1) ≤ MOST_LIVE_WORDS) (l : HasList) where
      contents_is : contents_at s name ≡ Items l.old l.xs
      contents_is = ap s.contents l.c_is ∙ l.contents

      change_is : refusal g s (SetCapacity name cap) ≡ unchanged name (if nat_lt cap l.old then Err Range else Ok (Items cap l.xs))
      unfolding first_some
      change_is =
          rest_is
          ∙ ap (λ o. first_some (o ∷ unchanged name (capacity_in (contents_at s name) cap) ∷ [])) (not_full s (cap + 1) name le)
          ∙ only (unchanged name (capacity_in (contents_at s name) cap))
          ∙ ap (λ k. unchanged name (capacity_in k cap)) contents_is
        where
          only : (o : Option Refused) → first_some (None ∷ o ∷ []) ≡ o
          only None = refl
          only (Some r) = refl

      pub refused_low : cap < l.old → refusal g s (SetCapacity name cap) ≡ Some (refused PastRange name)
      refused_low lt = change_is ∙ ap (λ b. unchanged name (if b then Err Range else Ok (Items cap l.xs))) (let e : nat_lt cap l.old ≡ true = grind arith in e)

      module _ (grows : l.old ≤ cap) where
        unrefused : refusal g s (SetCapacity name cap) ≡ None
        unrefused = change_is ∙ ap (λ b. unchanged name (if b then Err Range else Ok (Items cap l.xs))) (let e : nat_lt cap l.old ≡ false = grind arith in e)

        abbrev x : Statement
        x = record { line = line; act = SetCapacity name cap }

        acted : act g s x ≡ with_capacity s l.c cap l.xs
        acted =
            ap (λ k. act_or_pass k g s x) step.acts
            ∙ ap (λ o. decided o g s x) unrefused
            ∙ capacity_is g line s name cap l.old l.xs contents_is grows
            ∙ ap (λ c. with_capacity s c cap l.xs) l.c_is

        pub capacity_fails : MOST_CREATED_WORDS < p.world.created + (cap + 1) → MOST_CREATED_WORDS < (act g s x).created
        capacity_fails lt =
            let e = ap (λ (t : ScriptState). t.created) acted in
            let k = st.numbers.created in
            omega arith

        pub capacity_goes_on : (w : World) (draft : Draft) (span : Span) (at : ListAt) → l.it.bind ≡ WholeList at
            → p.world.created + (cap + 1) ≤ MOST_CREATED_WORDS
            → IsMoved p.world w l.c l.it cap span
            → HasOp p.draft draft (record { line = line; name = name; act = Move (record { start = at.start; len = at.cap + 1 }) span })
            → HasStepped b (record p { world = w; draft = draft })
        capacity_goes_on w draft span at was small m has =
            range_steps b (record p { world = w; draft = draft }) (cap + 1) span
            (record { line = line; name = name; act = Move (record { start = at.start; len = at.cap + 1 }) span })
            (record {
              fit = m.regrown.fit;
              len = m.regrown.len_is;
              peak = m.regrown.peak;
              works = ap (λ (z : World). z.works) m.rest;
            })
            (record {
              ops = has.ops;
              segments = ap (λ (z : Draft). z.segments) has.rest;
              waits = ap (λ (z : Draft). z.waits) has.rest;
              jobs = ap (λ (z : Draft). z.jobs) has.rest;
              kernels = ap (λ (z : Draft). z.kernels) has.rest;
            })
            refl unrefused refl tt (ap (λ (z : ScriptState). z.book.completed) acted)
            (subst (λ z. Stands (record p { world = w; draft = draft }) g begun (suc n) z (found ++ span.start ∷ [])) (sym acted)
            (subst (λ z. Stands z g begun (suc n) (with_capacity s l.c cap l.xs) (found ++ span.start ∷ []))
            (let a = m.rest in let b = has.rest in λ i. record p { world = sym a i; draft = sym b i })
            (regrown_stands p g begun n s found line name l.c cap l.old l.xs l.it m.now span w.store w.safety w.containers w.created
            draft.ops
            st named.below l.c_is l.contents l.alive grows
            (record {
              has = l.has;
              store_is = m.regrown;
              safety_is = m.broken;
              bind = m.bind_is;
              slot_is = m.slot_is;
              version_is = m.version_is;
              life_is = m.life_is;
              frame_is = m.frame_is;
              name_is = m.name_is;
              line_is = m.line_is;
              containers_are = m.containers;
              created_is = m.created;
              small = (let e = m.created in omega arith);
              at = at;
              was = was;
              ops_are = has.ops;
            })
            unrefused)))

      -- REFUSED SINCE IT IS TOO LOW: the views are broken

      module _ (lt : cap < l.old) (safety : SafetyBook) (broken : HasBroken p.world.safety safety l.it.slot.0) (q : Planner)
          (i : IsPushed (record p { world = record p.world { safety = safety } }) q (record { line = line; name = name; act = Say PastRange })) where
        abbrev y : Statement
        y = record { line = line; act = SetCapacity name cap }

        abbrev t : ScriptState
        t = act g s y

        like : IsLikeBefore g y (refused PastRange name) s t
        like = refused_changes_little g s y (refused PastRange name) step.acts (refused_low lt)

        slot_same : (k : ℕ) → state_of q.world.safety k ≡ record (state_of p.world.safety k) { view = (state_of q.world.safety k).view }
        slot_same k = ⊎_elim
            (λ e. subst (λ j. state_of q.world.safety j ≡ record (state_of p.world.safety j) { view = (state_of q.world.safety j).view }) (sym e) here)
            (λ ne. ap (λ (z : SlotState). record z { view = (state_of q.world.safety k).view }) (there_same ne))
            (cases_eq k l.it.slot.0)
          where
            there_same : k ≢ l.it.slot.0 → state_of q.world.safety k ≡ state_of p.world.safety k
            there_same ne = ap (λ (z : Planner). state_of z.world.safety k) i.rest ∙ broken.others k ne

            here : state_of q.world.safety l.it.slot.0 ≡ record (state_of p.world.safety l.it.slot.0) { view = (state_of q.world.safety l.it.slot.0).view }
            here =
                let e = ap (λ (z : Planner). state_of z.world.safety l.it.slot.0) i.rest ∙ broken.slot_is in
                e ∙ ap (λ v. record (state_of p.world.safety l.it.slot.0) { view = v }) (sym (ap (λ (z : SlotState). z.view) e))

        breaks : (d : ℕ) → nat_eq d (container_at s name) ≡ false → breaks_views_of PastRange (SetCapacity name cap) s d ≡ false
        breaks d e = ap (λ b. b && is_list_now (s.contents d)) e

        breaks_it : breaks_views_of PastRange (SetCapacity name cap) s l.c ≡ true
        breaks_it = (let a = eq-eqb l.c (container_at s name) (sym l.c_is) in let b = l.contents in λ i. a i && is_list_now (b i))

        views : (d : ℕ) (it : Container) → slice_get p.world.containers.items d ≡ Some it → s.alive d ≡ true
            → (state_of q.world.safety it.slot.0).view ≡ t.view d
        views d it has alive = ⊎_elim here other (cases_eq d l.c)
          where
            kept : IsContainer p.world s found d it
            kept = st.knows.containers.each d it has

            here : d ≡ l.c → (state_of q.world.safety it.slot.0).view ≡ t.view d
            here e =
                let same : it ≡ l.it = some_is (sym has ∙ ap (slice_get p.world.containers.items) e ∙ l.has) in
                let up : (state_of q.world.safety l.it.slot.0).view ≡ (state_of p.world.safety l.it.slot.0).view + 1 =
                ap (λ (z : Planner). (state_of z.world.safety l.it.slot.0).view) i.rest ∙ ap (λ (z : SlotState). z.view) broken.slot_is in
                let was = (st.knows.containers.each l.c l.it l.has).view l.alive in
                let new = like.broken l.c breaks_it in
                ap (λ (z : Container). (state_of q.world.safety z.slot.0).view) same ∙ up ∙ ap (λ v. v + 1) was ∙ sym new ∙ ap t.view (sym e)

            other : d ≢ l.c → (state_of q.world.safety it.slot.0).view ≡ t.view d
            other ne =
                let below : (e : ℕ) (j : Container) → slice_get p.world.containers.items e ≡ Some j
                → e < s.made = (λ e j h. let lt = get_below p.world.containers.items e j h in let m = st.knows.containers.made in omega arith) in
                let apart : it.slot.0 ≢ l.it.slot.0 = (λ e. ne (st.knows.containers.once d l.c it l.it has l.has (alive_is_live s d (below d it has) alive)
                (alive_is_live s l.c (below l.c l.it l.has) l.alive) e)) in
                ap (λ (z : Planner). (state_of z.world.safety it.slot.0).view) i.rest ∙ ap (λ (z : SlotState). z.view) (broken.others it.slot.0 apart)
                ∙ kept.view alive ∙ sym (like.views d (breaks d (ne_eqb d (container_at s name) (λ e. ne (e ∙ l.c_is)))))

        restates : IsRestated p q s t
        restates =
            let handles = ap (λ (z : Planner). length z.world.handles.items) i.rest in
            record {
              planner = changed_fields p q p.world.values p.world.handles safety p.world.passing q.draft.ops i.rest;
              state = like_state g y (refused PastRange name) s t like;
              passing = ap (λ (z : Planner). z.world.passing) i.rest ∙ st.numbers.passing ∙ step.acts ∙ sym like.passing;
              values = ap (λ (z : Planner). length z.world.values.items) i.rest;
              handles = omega arith;
              ops = one_op_more p.draft.ops.items q.draft.ops.items (record { line = line; name = name; act = Say PastRange }) i.ops;
              form = λ d start below. ap (λ f. bind_of start (f d)) like.contents;
              slots = slot_same;
              views = views;
            }

        pub low_goes_on : HasStepped b q
        low_goes_on =
            refused_steps b q (refused_stands p q g begun n s found y (refused PastRange name) st step.acts (refused_low lt) named.below restates i.ops
            (known_after step) (subst (λ (z : Planner). AreNames z.world.values.items z.world.handles.items (length p.world.containers.items) t) (sym i.rest)
            (same_names p.world.values.items p.world.handles.items (length p.world.containers.items) s t (λ j m. like.values m refl j) st.knows.names)))
            (quiet_restated p q s t restates (given_one p.draft.ops.items q.draft.ops.items
            (record { line = line; name = name; act = Say PastRange }) i.ops refl))
            (refused PastRange name) (refused_low lt)
