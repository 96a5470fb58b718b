use Rattle.word_board.proofs.Ruling.{pieces_to_open_are_closed}
use Rattle.word_board.proofs.laws.pieces_to_open_are_closed.Goals as goal

pub returns : goal.returns
returns c = pieces_to_open_are_closed
