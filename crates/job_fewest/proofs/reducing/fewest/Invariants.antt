use Rattle.std.specs.Prelude.{◌-◌, length}
use Rattle.job_handle.specs.Sets.{jobs_of}
use Rattle.job_fewest.proofs.Steps.{IsFound}
use Rattle.job_fewest.proofs.reducing.fewest.Given as goal

abbrev pub invariant-loop-back : goal.invariant-loop-back
invariant-loop-back l = IsFound l.rows (jobs_of l.wanted) (jobs_of l.closure) l.jobs.items (length l.rows - l.back)
