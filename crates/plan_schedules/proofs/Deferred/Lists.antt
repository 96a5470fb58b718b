-- The list after `defer`: its words, and the word that holds its length.
use Rattle.std.proofs.Common.{◌≡◌, ℕ, ◌<◌, ◌≤◌, List, length, get_or, Option, Some, None, refl, sym, ap, subst, ◌∙◌, arith}
use Rattle.std.specs.Prelude.{slice_get}
use Rattle.job_base.specs.declared.limits.TheConstants.{MOST_INDEXES}
use Rattle.frame_ast.specs.declared.name_kind.NameKind.TheVariants as kind
use Rattle.frame_ast.specs.Contents.{Contents, Cells as Elements, Single, Items, Pairs, Entries}
use Rattle.frame_ast.specs.Fitting.{IsWhole}
use Rattle.frame_ast.specs.Kinds.{kind_of}
use Rattle.frame_ast.specs.Orders.{Setting}
use Rattle.frame_ast.specs.States as states
use Rattle.frame_ast.specs.States.{ScriptState, container_at, container_of, contents_at}
use Rattle.job_handle.specs.declared.handle.Handle.{Handle}
use Rattle.kernel_exec.specs.declared.binds.Bind.TheVariants.{List as WholeList}
use Rattle.native_list.specs.declared.ListAt.{ListAt}
use Rattle.plan_laws.specs.Binds.{bind_of}
use Rattle.defer_laws.specs.Deferring.{capacity_of}
use Rattle.plan_state.specs.declared.state.Value.{Value}
use Rattle.plan_state.specs.declared.state.Value.TheVariants.{Dead, Whole, Slice, View, Jobs as Handles}
use Rattle.plan_state.specs.declared.state.Planner.{Planner}
use Rattle.plan_state.specs.Accesses.{bind_from, bind_by as bind_of_container}
use Rattle.plan_schedules.specs.Deferring.{IsListBind, IsListName, IsListAt}
use Rattle.plan_schedules.specs.JobBinds.{bind_of_value}
use Rattle.plan_state.specs.Stands.{jobs_at, value_for, IsThere, Stands}
use Rattle.plan_schedules.proofs.Meaning.{some_at}

module _ {p : Planner} {g : Setting} {begun : ScriptState} {n : ℕ} {s : ScriptState} {found : List ℕ} (st : Stands p g begun n s found) where
  -- the words of a whole list
  pub record IsList (list : ℕ) : Type 0 where
    pub at : ListAt
    pub is : IsListAt p.world list at
    pub start : at.start ≡ get_or found (s.range (container_at s list)) 0
    pub range : s.range (container_at s list) < length found
    pub cap : at.cap ≡ capacity_of (contents_at s list)

  list_words : (start : ℕ) (c : Contents) → kind_of c ≡ kind.List → (at : ListAt) × (bind_of start c ≡ WholeList at) × (at.start ≡ start)
      × (at.cap ≡ capacity_of c)
  list_words start (Elements xs) h = absurd cc
  list_words start (Single z) h = absurd cc
  list_words start (Items cap xs) h = (record { start = start; cap = cap }, refl, refl, refl)
  list_words start (Pairs cap ps) h = absurd cc
  list_words start (Entries room es) h = absurd cc

  module _ (list : ℕ) where
    abbrev Found : states.Value → Value → Type 0
    Found w v = (at : ListAt) × (bind_of_container p.world.containers.items v ≡ WholeList at) × (at.start ≡ get_or found (s.range (container_of w)) 0)
        × (s.range (container_of w) < length found) × (at.cap ≡ capacity_of (s.contents (container_of w)))

    list_value : (v : Value) → IsThere (length p.world.containers.items) (length p.world.handles.items) v
        → IsWhole s kind.List (value_for p.world.handles.items v)
        → Found (value_for p.world.handles.items v) v
    list_value Dead there h = absurd h
    list_value (Whole c) there h =
        let it = some_at p.world.containers.items c there in
        let k = st.knows.containers.each c it.0 it.1 in
        let w = list_words (get_or found (s.range c) 0) (s.contents c) h in (
          w.0,
          ap (λ o. bind_from o (λ b. b)) it.1 ∙ k.bind ∙ w.1,
          w.2,
          (let lt = k.range in let t = st.knows.takes in omega arith),
          w.3,
        )
    list_value (Slice c start len) there h = absurd h
    list_value (View c number) there h = absurd h
    list_value (Handles k) there h = absurd (by (slice_get p.world.handles.items k) h)
      where
        by : (o : Option Handle) → IsWhole s kind.List (jobs_at o) → ⊥
        by None h = h
        by (Some x) h = h

    pub is_list : list < length p.world.values.items → IsWhole s kind.List (s.values list) → IsList list
    is_list below h =
        let v = some_at p.world.values.items list below in
        let same = st.knows.names.are list v.0 v.1 in
        let f = subst (λ w. Found w v.0) same (list_value v.0 (st.knows.names.there list v.0 v.1) (subst (IsWhole s kind.List) (sym same) h)) in
        record { at = f.0; is = ap (bind_of_value p.world) v.1 ∙ f.1; start = f.2; range = f.3; cap = f.4 }

    pub list_name : (l : IsList list) → capacity_of (contents_at s list) ≤ MOST_INDEXES → IsListName p.world list
    list_name l few = subst IsListBind (sym l.is) (let e = l.cap in omega arith)
