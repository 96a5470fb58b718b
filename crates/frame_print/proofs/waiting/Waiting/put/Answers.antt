use Rattle.std.proofs.Common.{[]}
use Rattle.job_base.proofs.Parts.{stop_first}
use Rattle.frame_print.proofs.Gathering.{gathers_stops, stops_before, passes_on, keeps}
use Rattle.frame_print.proofs.waiting.Waiting.put.Goals as goal

pub returns-in_err-flush-clause-text : goal.returns-in_err-flush-clause-text
returns-in_err-flush-clause-text g c = gathers_stops _ _ _ _ _ _ c.from_residual.ensures.0 (stop_first _ _ _ c.args.part.now c.in_err-flush.ensures.text)

pub returns-then-part-gt-ROOM-clause-text : goal.returns-then-part-gt-ROOM-clause-text
returns-then-part-gt-ROOM-clause-text g c =
    passes_on _ _ _ _ _ c.print_text.result _ c.in_ok-flush.ensures.text c.in_ok-flush.ensures.none c.print_text.ensures.text

pub returns-in_err-make_room-clause-text : goal.returns-in_err-make_room-clause-text
returns-in_err-make_room-clause-text g c = gathers_stops _ _ _ _ _ _ c.from_residual-in_err-make_room.ensures.0
    (stops_before _ _ _ [] c.args.part.now c.in_err-make_room.ensures.text)

pub returns-clause-text : goal.returns-clause-text
returns-clause-text g c = keeps _ _ _ _ _ _ c.in_ok-make_room.ensures.text c.keep.ensures.text
