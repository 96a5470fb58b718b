use Rattle.std.proofs.Common.{◌≡◌, ◌++◌, drop}
use Rattle.plan_schedules.specs.JobBinds.{job_binds}
use Rattle.plan_schedules.proofs.job_binds.job_binds.Given as goal

abbrev pub invariant-loop-i : goal.invariant-loop-i
invariant-loop-i l =
    l.binds.items ++ job_binds l.world l.kernel.parallel l.waive l.i (drop l.i l.kernel.params.items) (drop l.i l.args)
    ≡ job_binds l.world l.kernel.parallel l.waive 0 l.kernel.params.items l.args
