use Rattle.word_board.proofs.Ruling.{leased_pieces_are_begun}
use Rattle.word_board.proofs.laws.leased_pieces_are_begun.Goals as goal

pub returns : goal.returns
returns c = leased_pieces_are_begun
