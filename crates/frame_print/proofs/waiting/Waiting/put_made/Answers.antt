use Rattle.std.proofs.Common.{[], ◌++◌, refl, codes}
use Rattle.std.specs.Prelude.{decimal}
use Rattle.frame_print.proofs.Gathering.{gathers_stops, stops_before, keeps}
use Rattle.frame_print.proofs.Digits.{kept_two}
use Rattle.frame_print.proofs.waiting.Waiting.put_made.Goals as goal

pub returns-in_err-make_room-clause-text : goal.returns-in_err-make_room-clause-text
returns-in_err-make_room-clause-text g c =
    gathers_stops _ _ _ _ _ _ c.from_residual.ensures.0
    (stops_before _ _ _ [] (codes " made on line " ++ (decimal c.args.made ++ codes "\n")) c.in_err-make_room.ensures.text)

pub returns-clause-text : goal.returns-clause-text
returns-clause-text g c =
    let both = kept_two _ _ _ _ _ (codes " made on line " ++ decimal c.args.made) c.keep.ensures.text c.keep_count.ensures.text refl in
    keeps _ _ _ _ _ _ c.in_ok-make_room.ensures.text (kept_two _ _ _ _ _ _ both c.keep_byte.ensures refl)
