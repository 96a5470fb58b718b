use Rattle.native_array.proofs.Standing.{zero_words_are_zeros}
use Rattle.native_array.proofs.laws.zero_words_are_zeros.Goals as goal

pub returns : goal.returns
returns c = zero_words_are_zeros
