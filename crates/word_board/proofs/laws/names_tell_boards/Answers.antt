use Rattle.word_board.proofs.Naming.{same_board}
use Rattle.word_board.proofs.laws.names_tell_boards.Goals as goal

pub returns : goal.returns
returns c = same_board
