use Rattle.word_board.proofs.Ruling.{pieces_are_leased_once}
use Rattle.word_board.proofs.laws.pieces_are_leased_once.Goals as goal

pub returns : goal.returns
returns c = pieces_are_leased_once
