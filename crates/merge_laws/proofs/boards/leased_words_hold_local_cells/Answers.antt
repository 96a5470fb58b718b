use Rattle.merge_laws.proofs.Ruling.{leased_words_hold_local_cells}
use Rattle.merge_laws.proofs.boards.leased_words_hold_local_cells.Goals as goal

pub returns : goal.returns
returns c = leased_words_hold_local_cells
