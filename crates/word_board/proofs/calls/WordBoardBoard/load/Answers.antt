use Rattle.word_board.proofs.Seated.{seat_of, leased_is}
use Rattle.word_board.proofs.calls.WordBoardBoard.load.Goals as goal

pub load-requires-clause-seat : goal.load-requires-clause-seat
load-requires-clause-seat c = seat_of c.args.self.now c.args.seat.now c.requires.home

pub load-requires-clause-lease : goal.load-requires-clause-lease
load-requires-clause-lease c = let w = c.requires.word in (w.0, w.1, (leased_is c.args.self.now c.args.seat.now c.requires.home w.0 w.1).1, w.2)
