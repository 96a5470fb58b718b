use Rattle.std.proofs.Common.{◌≡◌, ◌+◌, eqb, length}
use Rattle.word_board.specs.Boards.{IsNewSeat, AreNewSeats}
use Rattle.word_board.proofs.making.make_seats.Given as goal

abbrev pub invariant-loop-made : goal.invariant-loop-made
invariant-loop-made l = record {
  last : IsNewSeat l.board (eqb (length l.all.items) 0) l.last;
  count : length l.all.items + 1 ≡ l._made;
  dealt : AreNewSeats l.board l.all.items;
}
