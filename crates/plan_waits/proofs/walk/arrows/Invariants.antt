use Rattle.plan_waits.proofs.Walking.{IsSoFar}
use Rattle.plan_waits.proofs.walk.arrows.Given as goal

abbrev pub invariant-loop-segment : goal.invariant-loop-segment
invariant-loop-segment l = IsSoFar l.plan l.rows.items l.found.items l.completed l.segment-index
