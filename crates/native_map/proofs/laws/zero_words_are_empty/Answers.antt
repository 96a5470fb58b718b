use Rattle.native_map.proofs.Effects.{zeros_law}
use Rattle.native_map.proofs.laws.zero_words_are_empty.Goals as goal

pub returns : goal.returns
returns c = zeros_law
