use Rattle.word_board.proofs.Ruling.{open_pieces_are_ready}
use Rattle.word_board.proofs.laws.open_pieces_are_ready.Goals as goal

pub returns : goal.returns
returns c = open_pieces_are_ready
