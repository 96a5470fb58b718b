use Rattle.std.proofs.Common.{◌<◌, length, refl, arith}
use Rattle.job_depth.proofs.Steps.{item_at}
use Rattle.plan_waits.proofs.Walking.{fit_as}
use Rattle.trace_view.proofs.Counting.{segments_on}
use Rattle.trace_view.proofs.Fitting.{waits_fit}
use Rattle.trace_view.proofs.segments.segment_traces.Goals as goal

pub add_fresh-jobs-requires : goal.add_fresh-jobs-requires
add_fresh-jobs-requires c =
    let lt : c.loop-k.k < length c.args.plan.now.segments.items = let o = c.args.plan.now.segments.ok.0 in omega arith in
    fit_as _ _ c.deref.ensures.value (waits_fit c.args.plan.now c.requires.well c.loop-k.k c.index-segment.result.now
    (item_at _ _ _ _ refl lt c.index-segment.ensures))

pub loop-k-preserved : goal.loop-k-preserved
loop-k-preserved c =
    segments_on _ _ _ (length c.args.plan.now.segments.items) c.loop-k.k _ (let o = c.args.plan.now.segments.ok.0 in omega arith) refl
    c.in_ok-push.ensures.items c.loop-k.invariant
