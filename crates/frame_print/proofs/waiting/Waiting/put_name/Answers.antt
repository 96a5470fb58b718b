use Rattle.std.proofs.Common.{[]}
use Rattle.std.specs.Prelude.{codes}
use Rattle.frame_print.proofs.Gathering.{gathers_stops, stops_before, stops_after, joins_more, keeps}
use Rattle.frame_print.proofs.waiting.Waiting.put_name.Goals as goal

pub returns-in_err-put-clause-text : goal.returns-in_err-put-clause-text
returns-in_err-put-clause-text g c =
    gathers_stops _ _ _ _ _ _ c.from_residual.ensures.0
    (stops_before _ _ _ c.args.name.now (codes " = ") c.in_err-put.ensures.text)

pub returns-in_err-make_room-clause-text : goal.returns-in_err-make_room-clause-text
returns-in_err-make_room-clause-text g c =
    gathers_stops _ _ _ _ _ _ c.from_residual-in_err-make_room.ensures.0
    (stops_after _ _ _ _ _ c.args.name.now (codes " = ") c.in_ok-put.ensures.text
    (stops_before _ _ _ [] (codes " = ") c.in_err-make_room.ensures.text))

pub returns-clause-text : goal.returns-clause-text
returns-clause-text g c =
    joins_more _ _ _ _ _ _ c.args.name.now (codes " = ") c.in_ok-put.ensures.text
    (keeps _ _ _ _ _ _ c.in_ok-make_room.ensures.text c.keep.ensures.text)
