use Rattle.std.proofs.Common.{◌<◌, length, refl, arith}
use Rattle.job_depth.proofs.Steps.{item_at}
use Rattle.frame_view.proofs.Cuts.{cut_at}
use Rattle.trace_view.proofs.jobs.job_traces.Goals as goal

pub job_trace-requires-clause-cut : goal.job_trace-requires-clause-cut
job_trace-requires-clause-cut c =
    let lt : c.loop-j.j < length c.args.plan.now.jobs.items = let o = c.args.plan.now.jobs.ok.0 in omega arith in
    cut_at c.args.plan.now c.requires.well c.loop-j.j c.index.result.now (item_at _ _ _ _ refl lt c.index.ensures)
