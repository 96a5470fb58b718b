use Rattle.std.proofs.Common.{◌≡◌, drop}
use Rattle.frame_ast.specs.Lists.{member}
use Rattle.plan_schedules.proofs.job_binds.is_waived.Given as goal

abbrev pub invariant-loop-i : goal.invariant-loop-i
invariant-loop-i l = member l.place (drop l.i l.waive) ≡ member l.place l.waive
