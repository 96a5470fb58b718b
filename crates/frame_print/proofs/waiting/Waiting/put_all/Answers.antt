use Rattle.std.proofs.Common.{◌∙◌}
use Rattle.frame_print.proofs.Gathering.{going_part, stops_part, gathers_stops}
use Rattle.frame_print.proofs.waiting.Waiting.put_all.Goals as goal

pub returns-in_err-put-clause-text : goal.returns-in_err-put-clause-text
returns-in_err-put-clause-text g c =
    gathers_stops _ _ _ _ _ _ c.from_residual.ensures.0 (stops_part _ _ _ _ _ _ _ _ c.loop-part-test.true c.loop-part.invariant.0 c.in_err-put.ensures.text)

pub loop-part-preserved : goal.loop-part-preserved
loop-part-preserved g c = (
  going_part _ _ _ _ _ _ _ _ _ c.loop-part-test.true c.loop-part.invariant.0 c.in_ok-put.ensures.text,
  c.in_ok-put.ensures.count ∙ c.loop-part.invariant.1,
)
