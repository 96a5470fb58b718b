use Rattle.native_stream.proofs.Standing.{zero_words}
use Rattle.native_stream.proofs.place.words_of.Goals as goal

pub returns-clause-unwritten : goal.returns-clause-unwritten
returns-clause-unwritten c = zero_words
