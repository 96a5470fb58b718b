use Rattle.trace_view.proofs.Counting.{pieces_on}
use Rattle.trace_view.proofs.pieces.piece_traces.Goals as goal

pub loop-i-preserved : goal.loop-i-preserved
loop-i-preserved c =
    pieces_on c.args.job.now _ _ c.piece_trace.result c.pieces-pieces.result c.loop-i.i _ c.loop-i-test.true c.piece_trace.ensures
    c.in_ok-push.ensures.items c.loop-i.invariant
