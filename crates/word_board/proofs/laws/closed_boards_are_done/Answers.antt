use Rattle.word_board.proofs.Closed.{closed_boards_are_done}
use Rattle.word_board.proofs.laws.closed_boards_are_done.Goals as goal

pub returns : goal.returns
returns c = closed_boards_are_done
