use Rattle.std.proofs.Common.{List, ◌++◌, drop}
use Rattle.job_handle.specs.Sets.{jobs_of}
use Rattle.plan_schedules.specs.declared.uses.NamedUse.{NamedUse}
use Rattle.plan_schedules.specs.Uses.{ForNames, IsUse}
use Rattle.plan_schedules.proofs.uses.gather.Given as goal

abbrev pub invariant-loop-i : goal.invariant-loop-i
invariant-loop-i l = (rest : List NamedUse)
    → ForNames (IsUse l.world (jobs_of l.named)) (drop l.i l.params) (drop l.i l.args) rest
    → ForNames (IsUse l.world (jobs_of l.named)) l.params l.args (l.uses.items ++ rest)
