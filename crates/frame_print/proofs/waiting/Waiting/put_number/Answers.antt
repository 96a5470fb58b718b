use Rattle.std.proofs.Common.{◌≡◌, [], ◌++◌, sym, ap, to_z, of_z, w64, arith}
use Rattle.std.proofs.lemmas.Int.{ints}
use Rattle.std.specs.Fmt.{signed_decimal}
use Rattle.frame_print.specs.Gathering.{comma_before}
use Rattle.frame_print.proofs.Gathering.{gathers_stops, stops_before, keeps}
use Rattle.frame_print.proofs.Digits.{kept_two}
use Rattle.frame_print.proofs.waiting.Waiting.put_number.Goals as goal

pub returns-in_err-make_room-clause-text : goal.returns-in_err-make_room-clause-text
returns-in_err-make_room-clause-text g c =
    gathers_stops _ _ _ _ _ _ c.from_residual.ensures.0
    (stops_before _ _ _ [] (comma_before c.args.place ++ signed_decimal c.args.n) c.in_err-make_room.ensures.text)

pub returns-clause-text : goal.returns-clause-text
returns-clause-text g c =
    let n : to_z w64 (of_z w64 c.args.n) ≡ c.args.n = omega (arith, ints) in
    let same = ap (λ z. comma_before c.args.place ++ signed_decimal z) n in
    keeps _ _ _ _ _ _ c.in_ok-make_room.ensures.text
    (kept_two _ _ _ _ _ _ c.keep_comma.ensures c.keep_number.ensures.text (sym same))
