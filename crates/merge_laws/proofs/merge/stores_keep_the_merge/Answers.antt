use Rattle.merge_laws.proofs.Merging.{stores_keep_the_merge}
use Rattle.merge_laws.proofs.merge.stores_keep_the_merge.Goals as goal

pub returns : goal.returns
returns c = stores_keep_the_merge
