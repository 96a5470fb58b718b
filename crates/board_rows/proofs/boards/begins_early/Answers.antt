use Rattle.std.proofs.Common.{ap, true, false}
use Rattle.board_rows.proofs.Seats.{is_free, two_seats}
use Rattle.board_rows.proofs.boards.begins_early.Goals as goal

pub begin_any-one-requires-clause-homes : goal.begin_any-one-requires-clause-homes
begin_any-one-requires-clause-homes g c =
    let two = two_seats c.in_ok-board.board c.in_ok-board.seats.items _ _ _ c.in_ok-board.ensures.count c.in_ok-board.ensures.seats
    c.remove-first.ensures.value c.remove-first.ensures.items c.remove-second.ensures.value in
    (two.0.home, two.1.home)

pub begin_any-one-requires-clause-free : goal.begin_any-one-requires-clause-free
begin_any-one-requires-clause-free g c =
    let two = two_seats c.in_ok-board.board c.in_ok-board.seats.items _ _ _ c.in_ok-board.ensures.count c.in_ok-board.ensures.seats
    c.remove-first.ensures.value c.remove-first.ensures.items c.remove-second.ensures.value in
    (is_free c.in_ok-board.board true _ two.0, is_free c.in_ok-board.board false _ two.1)

pub begin_any-one-requires-clause-first : goal.begin_any-one-requires-clause-first
begin_any-one-requires-clause-first g c =
    let two = two_seats c.in_ok-board.board c.in_ok-board.seats.items _ _ _ c.in_ok-board.ensures.count c.in_ok-board.ensures.seats
    c.remove-first.ensures.value c.remove-first.ensures.items c.remove-second.ensures.value in
    ap (λ v. v.first) two.0.view
