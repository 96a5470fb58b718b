use Rattle.std.proofs.Common.{[], ◌∷◌}
use Rattle.frame_print.proofs.Gathering.{gathers_stops, stops_before}
use Rattle.frame_print.proofs.waiting.Waiting.put_byte.Goals as goal

pub returns-in_err-make_room-clause-text : goal.returns-in_err-make_room-clause-text
returns-in_err-make_room-clause-text g c =
    gathers_stops _ _ _ _ _ _ c.from_residual.ensures.0
    (stops_before _ _ _ [] (c.args.byte ∷ []) c.in_err-make_room.ensures.text)
