use Rattle.merge_laws.proofs.Handing.{hands_keep_the_merge}
use Rattle.merge_laws.proofs.merge.hands_keep_the_merge.Goals as goal

pub returns : goal.returns
returns c = hands_keep_the_merge
