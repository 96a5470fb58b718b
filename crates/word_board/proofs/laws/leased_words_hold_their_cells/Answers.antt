use Rattle.word_board.proofs.Ruling.{leased_words_hold_their_cells}
use Rattle.word_board.proofs.laws.leased_words_hold_their_cells.Goals as goal

pub returns : goal.returns
returns c = leased_words_hold_their_cells
