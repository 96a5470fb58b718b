use Rattle.std.proofs.Common.{[], ◌++◌, refl, codes}
use Rattle.std.specs.Prelude.{decimal}
use Rattle.frame_ast.specs.Texts.{refused_line, refusal_text}
use Rattle.frame_print.proofs.Gathering.{gathers_stops, gathers_after, gathers_as, stops_before, keeps}
use Rattle.frame_print.proofs.Digits.{kept_two}
use Rattle.frame_print.proofs.Parts.{refused_is}
use Rattle.frame_print.proofs.waiting.Waiting.put_refused_line.Goals as goal

pub returns-in_err-make_room-clause-text : goal.returns-in_err-make_room-clause-text
returns-in_err-make_room-clause-text g c =
    gathers_stops _ _ _ _ _ _ c.from_residual.ensures.0
    (stops_before _ _ _ [] (refused_line c.args.line c.args.refusal c.args.name.now) c.in_err-make_room.ensures.text)

pub returns-clause-text : goal.returns-clause-text
returns-clause-text g c =
    let head = codes "refused " ++ decimal c.args.line in
    let both = kept_two _ _ _ (codes "refused ") (decimal c.args.line) head c.keep.ensures.text c.keep_count.ensures.text refl in
    gathers_as _ _ _ _ c.put_refusal_text.result _ _ (refused_is c.args.line c.args.refusal c.args.name.now)
    (gathers_after _ _ _ _ _ _ c.put_refusal_text.result head (codes ": " ++ (refusal_text c.args.refusal c.args.name.now ++ codes "\n"))
    (keeps _ _ _ _ _ head c.in_ok-make_room.ensures.text both) c.put_refusal_text.ensures.text)
