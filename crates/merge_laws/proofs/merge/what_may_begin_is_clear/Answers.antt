use Rattle.merge_laws.proofs.Merging.{what_may_begin_is_clear}
use Rattle.merge_laws.proofs.merge.what_may_begin_is_clear.Goals as goal

pub returns : goal.returns
returns c = what_may_begin_is_clear
