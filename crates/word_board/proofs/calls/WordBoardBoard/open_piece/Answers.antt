use Rattle.std.proofs.Common.{ap, ◌∙◌}
use Rattle.word_board.specs.Views.{know}
use Rattle.word_board.proofs.Seated.{seat_of, opened_is}
use Rattle.word_board.proofs.calls.WordBoardBoard.open_piece.Goals as goal

pub open_piece-requires-clause-seat : goal.open_piece-requires-clause-seat
open_piece-requires-clause-seat c = seat_of c.args.self.now c.args.seat.now c.requires.home

pub returns-clause-know : goal.returns-clause-know
returns-clause-know c = ap know c.open_piece.ensures.view ∙ opened_is c.args.self.now c.args.seat.now c.requires.home c.args.p.0 _ 1
