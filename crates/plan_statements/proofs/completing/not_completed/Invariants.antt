use Rattle.std.proofs.Common.{◌≡◌, ◌-◌, ◌≤◌}
use Rattle.frame_ast.specs.Jobs.{Book}
use Rattle.job_handle.specs.Books.{StandsFor, count_of}
use Rattle.job_handle.specs.Sets.{jobs_of}
use Rattle.plan_statements.specs.Completions.{newly_of}
use Rattle.plan_state.specs.Growth.{rising_jobs}
use Rattle.plan_statements.proofs.completing.not_completed.Given as goal

abbrev pub invariant-loop-job : goal.invariant-loop-job
invariant-loop-job l = record {
  low : l.world.jobs_before ≤ l.at;
  high : l.at ≤ count_of l.world.jobs;
  ids : (b : Book)
      → StandsFor l.world.jobs b
      → l.ids.items ≡ rising_jobs (newly_of b l.world.jobs_before (jobs_of l.all)) (l.at - l.world.jobs_before);
}

abbrev pub decreases-loop-job : goal.decreases-loop-job
decreases-loop-job l = count_of l.world.jobs - l.at
