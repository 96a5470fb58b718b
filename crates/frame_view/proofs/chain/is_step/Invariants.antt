use Rattle.std.proofs.Common.{◌≡◌, drop}
use Rattle.frame_view.specs.Arrows.{is_step}
use Rattle.frame_view.proofs.chain.is_step.Given as goal

abbrev pub invariant-loop-id : goal.invariant-loop-id
invariant-loop-id l = is_step l.before (drop l.id-index l.chain) l.earlier.0 l.later.0 ≡ is_step 0 l.chain l.earlier.0 l.later.0
