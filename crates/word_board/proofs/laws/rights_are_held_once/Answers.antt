use Rattle.word_board.proofs.Ruling.{rights_are_held_once}
use Rattle.word_board.proofs.laws.rights_are_held_once.Goals as goal

pub returns : goal.returns
returns c = rights_are_held_once
