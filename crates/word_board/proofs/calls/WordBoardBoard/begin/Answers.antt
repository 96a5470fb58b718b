use Rattle.word_board.proofs.Seated.{seat_of}
use Rattle.word_board.proofs.calls.WordBoardBoard.begin.Goals as goal

pub begin-begun-requires-clause-seat : goal.begin-begun-requires-clause-seat
begin-begun-requires-clause-seat c = seat_of c.args.self.now c.args.seat.now c.requires.home
