use Rattle.std.proofs.Common.{◌-◌, length}
use Rattle.plan_statements.proofs.Reporting.{AreReportedSoFar}
use Rattle.plan_statements.proofs.frames.report_overdue.Given as goal

abbrev pub invariant-loop-container : goal.invariant-loop-container
invariant-loop-container l = AreReportedSoFar l.fn.world l.world l.line l.ops.items

abbrev pub decreases-loop-container : goal.decreases-loop-container
decreases-loop-container l = length l.world.tempjobs.items - l.world.overdue
