use Rattle.plan_statements.proofs.FramesGoOn.{OverSoFar}
use Rattle.plan_statements.proofs.frames.end_temps.Given as goal

abbrev pub invariant-loop-at : goal.invariant-loop-at
invariant-loop-at l = OverSoFar l.fn.world l.world l.at
