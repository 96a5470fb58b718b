use Rattle.merge_laws.proofs.Framing.{reclaimed_words_are_ordered}
use Rattle.merge_laws.proofs.plans.reclaimed_words_are_ordered.Goals as goal

pub returns : goal.returns
returns c = reclaimed_words_are_ordered
