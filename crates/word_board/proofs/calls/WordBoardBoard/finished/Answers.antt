use Rattle.word_board.proofs.Seated.{seat_of}
use Rattle.word_board.proofs.calls.WordBoardBoard.finished.Goals as goal

pub finished-requires-clause-seat : goal.finished-requires-clause-seat
finished-requires-clause-seat c = seat_of c.args.self.now c.args.seat.now c.requires.home
