use Rattle.std.proofs.Common.{drop}
use Rattle.job_handle.specs.Sets.{jobs_of}
use Rattle.plan_waits.proofs.Lists.{IsOn}
use Rattle.plan_waits.proofs.sets.with_all.Given as goal

abbrev pub invariant-loop-id : goal.invariant-loop-id
invariant-loop-id l = IsOn (jobs_of l.all) (jobs_of l.fn.set) (drop l.id-index l.jobs) l.jobs
