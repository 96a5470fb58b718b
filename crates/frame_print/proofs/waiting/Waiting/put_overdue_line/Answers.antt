use Rattle.std.proofs.Common.{[], ◌++◌, refl, codes}
use Rattle.std.specs.Prelude.{decimal}
use Rattle.frame_ast.specs.Texts.{overdue_line}
use Rattle.frame_print.proofs.Gathering.{gathers_stops, stops_before, keeps, second_stops, third_gathers}
use Rattle.frame_print.proofs.Digits.{kept_two}
use Rattle.frame_print.proofs.Parts.{overdue_is}
use Rattle.frame_print.proofs.waiting.Waiting.put_overdue_line.Goals as goal

pub returns-in_err-make_room-clause-text : goal.returns-in_err-make_room-clause-text
returns-in_err-make_room-clause-text g c =
    gathers_stops _ _ _ _ _ _ c.from_residual.ensures.0
    (stops_before _ _ _ [] (overdue_line c.args.line c.args.name.now c.args.made) c.in_err-make_room.ensures.text)

pub returns-in_err-put-clause-text : goal.returns-in_err-put-clause-text
returns-in_err-put-clause-text g c =
    let line = codes "overdue " ++ decimal c.args.line in
    let last = codes " made on line " ++ (decimal c.args.made ++ codes "\n") in
    let both = kept_two _ _ _ (codes "overdue ") (decimal c.args.line) line c.keep.ensures.text c.keep_count.ensures.text refl in
    let three = kept_two _ _ _ line (codes ": ") (line ++ codes ": ") both c.keep-2.ensures.text refl in
    gathers_stops _ _ _ _ _ _ c.from_residual-in_err-put.ensures.0
    (second_stops _ _ (line ++ codes ": ") c.args.name.now last _ (overdue_is c.args.line c.args.name.now c.args.made) _ _
    (keeps _ _ _ _ _ (line ++ codes ": ") c.in_ok-make_room.ensures.text three) _ c.in_err-put.ensures.text)

pub returns-clause-text : goal.returns-clause-text
returns-clause-text g c =
    let line = codes "overdue " ++ decimal c.args.line in
    let last = codes " made on line " ++ (decimal c.args.made ++ codes "\n") in
    let both = kept_two _ _ _ (codes "overdue ") (decimal c.args.line) line c.keep.ensures.text c.keep_count.ensures.text refl in
    let three = kept_two _ _ _ line (codes ": ") (line ++ codes ": ") both c.keep-2.ensures.text refl in
    third_gathers _ _ (line ++ codes ": ") c.args.name.now last _ (overdue_is c.args.line c.args.name.now c.args.made) _ _
    (keeps _ _ _ _ _ (line ++ codes ": ") c.in_ok-make_room.ensures.text three) _ _ _ _ c.put_made.result
    c.in_ok-put.ensures.text c.put_made.ensures.text
