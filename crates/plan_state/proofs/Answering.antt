-- An answer that a draft took is an operation that was pushed, or nothing.
use Rattle.std.proofs.Common.{◌≡◌, ap, subst, sym}
use Rattle.frame_ast.specs.declared.script.Statement.{Statement}
use Rattle.frame_core.specs.declared.plan.Op.{Op}
use Rattle.plan_state.specs.declared.state.Draft.{Draft}
use Rattle.plan_state.specs.declared.state.Planner.{Planner}
use Rattle.plan_state.specs.declared.state.World.{World}
use Rattle.plan_state.specs.Accesses.{IsPushed}
use Rattle.plan_state.specs.Answers.{HasOp}
use Rattle.plan_state.specs.Steps.{GoesOn}

pub was_pushed : (p : Planner) (w : World) (draft : Draft) (op : Op) → HasOp p.draft draft op
    → IsPushed (record p { world = w }) (record p { world = w; draft = draft }) op
was_pushed p w draft op has = record { ops = has.ops; rest = ap (λ (d : Draft). record p { world = w; draft = d }) has.rest }

pub nothing_taken : (p : Planner) (old new : World) (x : Statement) (draft : Draft) → draft ≡ p.draft
    → GoesOn (record p { world = old }) (record p { world = new }) x
    → GoesOn (record p { world = old }) (record p { world = new; draft = draft }) x
nothing_taken p old new x draft same on = subst (λ (d : Draft). GoesOn (record p { world = old }) (record p { world = new; draft = d }) x) (sym same) on
