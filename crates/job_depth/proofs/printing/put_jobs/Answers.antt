use Rattle.std.proofs.Common.{◌∙◌}
use Rattle.frame_print.proofs.Gathering.{gathers_stops}
use Rattle.job_depth.proofs.Prints.{going_job, stops_job}
use Rattle.job_depth.proofs.printing.put_jobs.Goals as goal

pub returns-in_err-put_job-clause-text : goal.returns-in_err-put_job-clause-text
returns-in_err-put_job-clause-text g c =
    gathers_stops _ _ _ _ _ _ c.from_residual.ensures.0 (stops_job _ _ _ _ _ _ _ _ c.loop-id-test.true c.loop-id.invariant.0 c.in_err-put_job.ensures.text)

pub loop-id-preserved : goal.loop-id-preserved
loop-id-preserved g c = (
  going_job _ _ _ _ _ _ _ _ _ c.loop-id-test.true c.loop-id.invariant.0 c.in_ok-put_job.ensures.text,
  c.in_ok-put_job.ensures.count ∙ c.loop-id.invariant.1,
)
