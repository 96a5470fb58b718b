-- The words that a planner has for a name hold its contents.
use Rattle.std.proofs.Common.{◌≡◌, ℕ, ◌<◌, ◌≤◌, Bool, true, false, length, get_or, Option, None, Some, refl, sym, ap, subst, ◌∙◌, arith}
use Rattle.std.specs.Prelude.{slice_get, if◌then◌else◌}
use Rattle.frame_ast.specs.declared.script.Script.{Script}
use Rattle.frame_ast.specs.States.{ScriptState, container_of, contents_at}
use Rattle.frame_ast.specs.States as states
use Rattle.job_handle.specs.declared.handle.Handle.{Handle}
use Rattle.kernel_exec.specs.Binds.{end_of}
use Rattle.kernel_exec.specs.Layout.{Holds}
use Rattle.merge_laws.specs.Graph.{Cells as Memory}
use Rattle.plan_laws.specs.Binds.{bind_of}
use Rattle.plan_laws.specs.Leaving.{AllHeld}
use Rattle.plan_laws.proofs.Statements.Making.{alive_is_live}
use Rattle.plan_state.specs.declared.state.Container.{Container}
use Rattle.plan_state.specs.declared.state.Planner.{Planner}
use Rattle.plan_state.specs.declared.state.Value.{Value}
use Rattle.plan_state.specs.declared.state.Value.TheVariants.{Dead, Whole, Slice, View, Jobs}
use Rattle.plan_state.specs.Stands.{jobs_at, value_for, IsThere}
use Rattle.plan_state.specs.Steps.{state_at}
use Rattle.plan_state.proofs.Accessing.{there}
use Rattle.frame_plan.specs.Bindings.{is_whole, IsBindAt, bind_made, bind_valued, bind_named}
use Rattle.frame_plan.specs.Runs.{AreWithin, IsInside}

-- what a name of jobs stands for is no container
no_container : (s : ScriptState) (o : Option Handle) → is_whole s (jobs_at o) ≡ false
no_container s None = refl
no_container s (Some h) = refl

module _ {script : Script} {p : Planner} (at : IsInside script p) (name : ℕ) (low : name < length script.names) (cells : Memory) (last : ℕ)
    (held : AllHeld (λ k. get_or at.found k 0) (state_at script at.table at.n) cells) (within : AreWithin last at.found (state_at script at.table at.n)) where
  open at use {found, stands as st}

  abbrev s : ScriptState
  s = state_at script at.table at.n

  -- none, where the name stands for no whole container
  none : (v : Value) → slice_get p.world.values.items name ≡ Some v → is_whole s (value_for p.world.handles.items v) ≡ false
      → value_for p.world.handles.items v ≡ s.values name → bind_valued p (Some v) ≡ None
      → IsBindAt s cells last name (bind_named p name)
  none v e not same bind = subst (IsBindAt s cells last name) (sym (ap (bind_valued p) e ∙ bind))
      (ap (is_whole s) (sym same) ∙ not)

  -- those of a container, while it is alive
  made : (c : ℕ) (it : Container) → slice_get p.world.containers.items c ≡ Some it → states.Whole c ≡ s.values name
      → c < s.made → (b : Bool) → s.alive c ≡ b
      → IsBindAt s cells last name (if b then Some it.bind else None)
  made c it has v below false off = ap (is_whole s) (sym v) ∙ off
  made c it has v below true on =
      let con = st.knows.containers.each c it has in (
        ap (is_whole s) (sym v) ∙ on,
        (
          get_or found (s.range c) 0,
          subst (λ w. it.bind ≡ bind_of (get_or found (s.range c) 0) (s.contents (container_of w))) v
              con.bind,
        ),
        subst (λ w. Holds cells it.bind (s.contents (container_of w))) v
            (subst (λ b. Holds cells b (s.contents c)) (sym con.bind) (held c below on)),
        subst (λ b. end_of b ≤ last) (sym con.bind) (within c (alive_is_live s c below on)),
      )

  pub bound : IsBindAt s cells last name (bind_named p name)
  bound =
      let v = there p.world.values.items name (let e = st.knows.each in omega (arith, low)) in
      by v.0 v.1 (st.knows.names.are name v.0 v.1) (st.knows.names.there name v.0 v.1)
    where
      by : (v : Value) → slice_get p.world.values.items name ≡ Some v → value_for p.world.handles.items v ≡ s.values name
          → IsThere (length p.world.containers.items) (length p.world.handles.items) v
          → IsBindAt s cells last name (bind_named p name)
      by Dead e f h = none Dead e refl f refl
      by (Whole c) e f h =
          let it = there p.world.containers.items c h in
          let con = st.knows.containers.each c it.0 it.1 in
          let below : c < s.made = (let m = st.knows.containers.made in omega (arith, h)) in
          subst (IsBindAt s cells last name) (sym (ap (bind_valued p) e ∙ ap (bind_made p) it.1 ∙ ap (λ b. if b then Some it.0.bind else None) con.alive))
          (made c it.0 it.1 f below (s.alive c) refl)
      by (Slice c from len) e f h = none (Slice c from len) e refl f refl
      by (View c number) e f h = none (View c number) e refl f refl
      by (Jobs k) e f h = none (Jobs k) e (no_container s (slice_get p.world.handles.items k)) f refl
