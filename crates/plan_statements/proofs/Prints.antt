-- `print`: what it is ready for, and that it goes on, refused or not.
use Rattle.std.proofs.Common.{◌≡◌, ℕ, ◌<◌, inr, false, [], ◌∷◌, ◌++◌, Some, None, refl, sym, ap, ◌∙◌}
use Rattle.std.specs.Prelude.{slice_get, vec_len}
use Rattle.job_base.specs.declared.Refusal.{Refusal}
use Rattle.frame_ast.specs.declared.script.Order.TheVariants.{Print as PrintOf}
use Rattle.frame_ast.specs.declared.script.Statement.{Statement}
use Rattle.frame_ast.specs.declared.name_kind.TheConstants.{CONTAINERS}
use Rattle.frame_ast.specs.Checks.{refusal}
use Rattle.frame_ast.specs.Effects.{effect}
use Rattle.frame_ast.specs.Orders.{setting}
use Rattle.kernel_exec.specs.declared.binds.Bind.{Bind}
use Rattle.frame_core.specs.declared.plan.Act.TheVariants.{Say, Print}
use Rattle.frame_core.specs.declared.plan.Op.{Op}
use Rattle.plan_laws.proofs.Statements.Printing.{allowed, prints_are_planned}
use Rattle.plan_state.specs.declared.state.Value.{Value}
use Rattle.plan_state.specs.declared.state.Planner.{Planner}
use Rattle.plan_state.specs.Accesses.{bind_by, AreThere, IsPushed, MayUse}
use Rattle.plan_state.specs.Stands.{draft_of}
use Rattle.plan_state.specs.Steps.{state_at, IsReady, GoesOn}
use Rattle.plan_state.proofs.Accessing.{are_there}
use Rattle.plan_state.proofs.Binding.{binds_at}
use Rattle.plan_state.proofs.Quiet.{given_one}
use Rattle.plan_state.proofs.Reaching.{fits_at, used_below, usable, within}
use Rattle.plan_state.proofs.Restating.{accepted_on, adds_op, name_is, name_short, pushed_names, pushed_restates, said}

module _ (line name : ℕ) where
  abbrev print : Statement
  print = record { line = line; act = PrintOf name }

  pub print_ready : (p : Planner) → IsReady p print → (name < vec_len p.world.values)
      × AreThere (vec_len p.world.containers) (vec_len p.world.handles) p.world.values.items
  print_ready p r =
      let b = r.2 in
      let f = fits_at b.step in
      let below = used_below b.step f.made name CONTAINERS f.fits in
      (within b.stands name below, are_there b.stands)

  pub print_refused : (p q : Planner) (cause : Refusal) → MayUse p.world name false (Some cause)
      → IsPushed p q (record { line = line; name = name; act = Say cause })
      → GoesOn p q print
  print_refused p q cause may i script table b =
      let g = setting script table in
      let f = fits_at b.step in
      said b (record { cause = cause; name = name }) (sym (may g (state_at script table b.n) b.found b.stands.knows))
      (used_below b.step f.made name CONTAINERS f.fits) q refl refl (inr (λ c. refl)) i

  pub print_shown : (p q : Planner) (v : Value) (at : Bind) → MayUse p.world name false None → slice_get p.world.values.items name ≡ Some v
      → at ≡ bind_by p.world.containers.items v
      → IsPushed p q (record { line = line; name = name; act = Print at }) → GoesOn p q print
  print_shown p q v at may value is i script table b =
      let g = setting script table in
      let s = state_at script table b.n in
      let t = effect g line s (PrintOf name) in
      let none : refusal g s (PrintOf name) ≡ None = sym (may g s b.found b.stands.knows) in
      let f = fits_at b.step in
      let below = used_below b.step f.made name CONTAINERS f.fits in
      let u = usable b.step f.made name CONTAINERS f.fits (allowed s name false none).alive in
      let op : Op = record { line = line; name = name; act = Print at } in
      let restates = pushed_restates {t = t} b.stands i refl refl refl (λ c start below. refl) in
      accepted_on b q none (refl, tt) (given_one p.draft.ops.items q.draft.ops.items op i.ops refl) restates
      (pushed_names p q op _ s t i refl b.stands.knows.names)
      (λ y a. prints_are_planned y g s line name (draft_of p) (draft_of q) a.small b.stands.knows.known (b.stands.planned y a) none u
      (name_short g y name a.names below) (name_is g y name a.names)
      (adds_op p q _ restates.planner (i.ops ∙ ap (λ b. p.draft.ops.items ++ record { line = line; name = name; act = Print b } ∷ [])
      (is ∙ binds_at b.stands y a name v value u))))
