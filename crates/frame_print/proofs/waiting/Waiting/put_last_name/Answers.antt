use Rattle.std.proofs.Common.{codes}
use Rattle.frame_print.proofs.Gathering.{gathers_stops, stops_before, gathers_after}
use Rattle.frame_print.proofs.waiting.Waiting.put_last_name.Goals as goal

pub returns-in_err-put-clause-text : goal.returns-in_err-put-clause-text
returns-in_err-put-clause-text g c =
    gathers_stops _ _ _ _ _ _ c.from_residual.ensures.0 (stops_before _ _ _ c.args.name.now (codes "\n") c.in_err-put.ensures.text)

pub returns-clause-text : goal.returns-clause-text
returns-clause-text g c =
    gathers_after _ _ _ _ _ _ c.put_byte.result c.args.name.now (codes "\n") c.in_ok-put.ensures.text c.put_byte.ensures.text
