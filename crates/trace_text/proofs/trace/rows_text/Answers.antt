use Rattle.std.proofs.Common.{◌∙◌}
use Rattle.trace_text.proofs.Rows.{rows_on}
use Rattle.trace_text.proofs.trace.rows_text.Goals as goal

pub loop-worker-preserved : goal.loop-worker-preserved
loop-worker-preserved c =
    rows_on _ _ _ c.args.workers c.loop-worker.worker _ c.loop-worker-test.true (c.as_str.ensures.value ∙ c.in_ok-part.ensures)
    c.in_ok-push_str.ensures.bytes c.loop-worker.invariant
