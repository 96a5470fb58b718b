use Rattle.native_stream.proofs.Standing.{own_words_decide}
use Rattle.native_stream.proofs.laws.own_words_decide.Goals as goal

pub returns : goal.returns
returns c = own_words_decide
