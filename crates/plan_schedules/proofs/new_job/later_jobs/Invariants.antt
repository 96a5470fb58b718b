use Rattle.std.proofs.Common.{◌≡◌, ℕ, ◌+◌, ◌-◌, ◌≤◌, ◌&&◌}
use Rattle.std.specs.Prelude.{nat_le}
use Rattle.job_handle.specs.Books.{count_of}
use Rattle.job_handle.specs.Sets.{jobs_of}
use Rattle.frame_core.specs.Names.{has_job}
use Rattle.plan_laws.specs.Ledgers.{later}
use Rattle.plan_laws.specs.Planned.{AreJobsUpTo}
use Rattle.plan_schedules.proofs.new_job.later_jobs.Given as goal

abbrev pub invariant-loop-job : goal.invariant-loop-job
invariant-loop-job l = record {
  low : l.world.jobs_before ≤ l.at;
  high : l.at ≤ count_of l.world.jobs;
  within : AreJobsUpTo (l.at - l.world.jobs_before) l.later.items;
  are : (j : ℕ) → has_job l.later.items j ≡ (nat_le (l.world.jobs_before + j) l.at && later l.world.jobs_before (jobs_of l.jobs) j);
}

abbrev pub decreases-loop-job : goal.decreases-loop-job
decreases-loop-job l = count_of l.world.jobs - l.at
