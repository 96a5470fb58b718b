use Rattle.native_stream.proofs.Standing.{zero_words}
use Rattle.native_stream.proofs.laws.zero_words_are_unwritten.Goals as goal

pub returns : goal.returns
returns c = zero_words
