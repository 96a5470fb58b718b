use Rattle.native_list.proofs.OwnWords.{own_words_decide}
use Rattle.native_list.proofs.laws.own_words_decide.Goals as goal

pub returns : goal.returns
returns c = own_words_decide
