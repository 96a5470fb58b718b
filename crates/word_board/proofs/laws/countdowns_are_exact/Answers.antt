use Rattle.word_board.proofs.Ruling.{countdowns_are_exact}
use Rattle.word_board.proofs.laws.countdowns_are_exact.Goals as goal

pub returns : goal.returns
returns c = countdowns_are_exact
