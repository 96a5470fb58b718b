-- A `when` that acts names a reference, whose words hold its value.
use Rattle.std.proofs.Common.{◌≡◌, ℕ, ◌<◌, ◌≤◌, true, ◌&&◌, ℤ, List, [], ◌∷◌, length, get_or, Option, None, Some, refl, sym, ap, subst, ◌∙◌, arith}
use Rattle.std.specs.Prelude.{slice_get, nat_le, nat_eq, nat_lt}
use Rattle.std.proofs.lemmas.Bool.{and_parts}
use Rattle.frame_ast.specs.declared.name_kind.NameKind.TheVariants.{Reference as RefName}
use Rattle.frame_ast.specs.declared.script.Order.TheVariants.{When}
use Rattle.frame_ast.specs.declared.script.Script.{Script}
use Rattle.frame_ast.specs.declared.script.Sign.{Sign}
use Rattle.frame_ast.specs.declared.script.Statement.{Statement}
use Rattle.frame_ast.specs.Accepted.{IsAccepted, uses, order_fits, statements_fit}
use Rattle.frame_ast.specs.Checks.{refusal}
use Rattle.frame_ast.specs.Contents.{Contents, Cells, Single, Items, Pairs, Entries}
use Rattle.frame_ast.specs.Kinds.{kind_of, IsOfKind}
use Rattle.frame_ast.specs.Orders.{Table, setting}
use Rattle.frame_ast.specs.Refusals.{disposed, busy}
use Rattle.frame_ast.specs.States as states
use Rattle.frame_ast.specs.States.{ScriptState, is_alive, container_of, container_at, contents_at}
use Rattle.frame_ast.proofs.NameKinds.{first_none, lives}
use Rattle.frame_ast.proofs.Naming.{is_used, one_kind}
use Rattle.job_handle.specs.declared.handle.Handle.{Handle}
use Rattle.kernel_exec.specs.declared.binds.Bind.TheVariants.{Ref}
use Rattle.kernel_exec.specs.Layout.{Holds}
use Rattle.merge_laws.specs.Graph.{Cells as Memory}
use Rattle.native_array.specs.declared.reference.RefAt.{RefAt}
use Rattle.frame_core.proofs.Small.{some_is, none_some, not_both, get_below}
use Rattle.plan_laws.specs.Binds.{bind_of}
use Rattle.plan_laws.specs.Leaving.{AllHeld}
use Rattle.kernel_exec.specs.Binds.{end_of}
use Rattle.plan_laws.proofs.Statements.Making.{alive_is_live}
use Rattle.frame_plan.specs.Runs.{AreWithin}
use Rattle.plan_state.specs.declared.state.Value.{Value}
use Rattle.plan_state.specs.declared.state.Value.TheVariants.{Dead, Whole, Slice, View, Jobs}
use Rattle.plan_state.specs.declared.state.Planner.{Planner}
use Rattle.frame_plan.specs.References.{IsReferenceOf}
use Rattle.plan_state.specs.Stands.{jobs_at, value_for, IsThere}
use Rattle.plan_state.specs.Steps.{state_at, IsBefore}
use Rattle.plan_state.proofs.Accessing.{there}
use Rattle.plan_state.proofs.Reaching.{holds_kinds, fits_at, used_below}

single : (c : Contents) → RefName ≡ kind_of c → (z : ℤ) × (c ≡ Single z)
single (Cells xs) e = absurd cc
single (Single z) e = (z, refl)
single (Items cap xs) e = absurd cc
single (Pairs cap ps) e = absurd cc
single (Entries room es) e = absurd cc

dead_handle : (s : ScriptState) (o : Option Handle) → is_alive s (jobs_at o) ≡ true → ⊥
dead_handle s None e = not_both e refl
dead_handle s (Some h) e = not_both e refl

module _ {script : Script} {table : Table} {p : Planner} {x : Statement} (b : IsBefore script table p x) (name : ℕ) (sign : Sign) (value : ℤ) (count : ℕ)
    (is : x.act ≡ When name sign value count) (none : refusal (setting script table) (state_at script table b.n) (When name sign value count) ≡ None) where
  open b use {n, found, step, stands as st}

  abbrev s : ScriptState
  s = state_at script table n

  alive : is_alive s (s.values name) ≡ true
  alive = lives s name (first_none (disposed s (name ∷ [])) (busy s name ∷ []) none).0

  is_fit : order_fits (record { kinds = step.accepted.kinds; made = (fits_at step).made }) (setting script table).literals
      (setting script table).kernels (fits_at step).rest (fits_at step).inside (When name sign value count) ≡ true
  is_fit = subst (λ a. order_fits (record { kinds = step.accepted.kinds; made = (fits_at step).made }) (setting script table).literals
      (setting script table).kernels (fits_at step).rest (fits_at step).inside a ≡ true) is (fits_at step).fits

  is_use : uses (record { kinds = step.accepted.kinds; made = (fits_at step).made }) name (RefName ∷ []) ≡ true
  is_use = (and_parts (uses (record { kinds = step.accepted.kinds; made = (fits_at step).made }) name (RefName ∷ []))
      (nat_le count (fits_at step).rest && nat_eq (fits_at step).inside 0) is_fit).0

  pub name_below : name < length (setting script table).names
  name_below = used_below step (fits_at step).made name (RefName ∷ []) is_use

  of_kind : IsOfKind s RefName (s.values name)
  of_kind =
      let u = is_used (record { kinds = step.accepted.kinds; made = (fits_at step).made }) name (RefName ∷ []) is_use in
      subst (λ k. IsOfKind s k (s.values name)) (one_kind u.kind RefName u.fits) ((holds_kinds step).names name u.kind u.at)

  pub reference : (at : RefAt) × IsReferenceOf p name at
  reference =
      let v = there p.world.values.items name (let lt = name_below in let e = st.knows.each in omega arith) in
      by v.0 v.1 (st.knows.names.are name v.0 v.1) (st.knows.names.there name v.0 v.1)
    where
      by : (v : Value) → slice_get p.world.values.items name ≡ Some v → value_for p.world.handles.items v ≡ s.values name
          → IsThere (length p.world.containers.items) (length p.world.handles.items) v → (at : RefAt) × IsReferenceOf p name at
      by Dead e f h = absurd (not_both alive (ap (is_alive s) (sym f)))
      by (Whole c) e f h =
          let it = there p.world.containers.items c h in
          let k = subst (IsOfKind s RefName) (sym f) of_kind in
          let z = single (s.contents c) k.0 in
          let con = st.knows.containers.each c it.0 it.1 in (
            record { start = get_or found (s.range c) 0 },
            record {
              container = c;
              it = it.0;
              value = e;
              has = it.1;
              bind = con.bind ∙ ap (bind_of (get_or found (s.range c) 0)) z.1;
            },
          )
      by (Slice c from len) e f h = let k = subst (IsOfKind s RefName) (sym f) of_kind in let bad = k.0 in absurd cc
      by (View c number) e f h = let k = subst (IsOfKind s RefName) (sym f) of_kind in let bad = k.0 in absurd cc
      by (Jobs k) e f h = absurd (dead_handle s (slice_get p.world.handles.items k) (ap (is_alive s) f ∙ alive))

  pub reference_held : (cells : Memory) (at : RefAt) → AllHeld (λ k. get_or found k 0) s cells → IsReferenceOf p name at
      → Holds cells (Ref at) (contents_at s name)
  reference_held cells at held r =
      let v : states.Whole r.container ≡ s.values name = st.knows.names.are name (Whole r.container) r.value in
      let below : r.container < s.made = (let lt = get_below p.world.containers.items r.container r.it r.has
      in let e = st.knows.containers.made in
      omega arith) in
      let on : s.alive r.container ≡ true = ap (is_alive s) v ∙ alive in
      let con = st.knows.containers.each r.container r.it r.has in
      let same : bind_of (get_or found (s.range r.container) 0) (s.contents r.container) ≡ Ref at = sym con.bind
      ∙ r.bind in
      subst (λ w. Holds cells (Ref at) (s.contents (container_of w))) v (subst (λ b. Holds cells b (s.contents r.container)) same (held r.container below on))

  -- and the word lies within what holds all that is live
  pub reference_inside : (last : ℕ) (at : RefAt) → AreWithin last found s → IsReferenceOf p name at → at.start < last
  reference_inside last at within r =
      let v : states.Whole r.container ≡ s.values name = st.knows.names.are name (Whole r.container) r.value in
      let below : r.container < s.made = (let lt = get_below p.world.containers.items r.container r.it r.has
      in let e = st.knows.containers.made in
      omega arith) in
      let on : s.alive r.container ≡ true = ap (is_alive s) v ∙ alive in
      let con = st.knows.containers.each r.container r.it r.has in
      let same : bind_of (get_or found (s.range r.container) 0) (s.contents r.container) ≡ Ref at = sym con.bind
      ∙ r.bind in
      let le = subst (λ b. end_of b ≤ last) same (within r.container (alive_is_live s r.container below on)) in
      omega arith

-- the first statement is no test
pub first_is_none : (script : Script) (table : Table) → IsAccepted script → (x : Statement) → slice_get script.statements.items 0 ≡ Some x
    → (name : ℕ) (sign : Sign) (value : ℤ) (count : ℕ) → x.act ≡ When name sign value count → ⊥
first_is_none script table accepted x e name sign value count is = by script.statements.items e accepted.fits
  where
    by : (xs : List Statement) → slice_get xs 0 ≡ Some x → statements_fit (record { kinds = accepted.kinds; made = 0 })
        (setting script table).literals script.kernels.items 0 xs ≡ true → ⊥
    by [] e fits = none_some e
    by (y ∷ more) e fits =
        let here = (and_parts _ _ fits).0 in
        let as_when = subst (λ a. order_fits (record { kinds = accepted.kinds; made = 0 }) (setting script table).literals script.kernels.items
        (length more) 0 a ≡ true) (ap (λ (k : Statement). k.act) (some_is e) ∙ is) here in
        let used = (and_parts _ _ as_when).0 in
        let less : nat_lt name 0 ≡ true = (and_parts _ _ used).0 in
        let lt : name < 0 = grind arith in
        absurd (omega arith)
