use Rattle.merge_laws.proofs.Merging.{begins_keep_the_merge}
use Rattle.merge_laws.proofs.merge.begins_keep_the_merge.Goals as goal

pub returns : goal.returns
returns c = begins_keep_the_merge
