use Rattle.merge_laws.proofs.Merging.{ends_keep_the_merge}
use Rattle.merge_laws.proofs.merge.ends_keep_the_merge.Goals as goal

pub returns : goal.returns
returns c = ends_keep_the_merge
