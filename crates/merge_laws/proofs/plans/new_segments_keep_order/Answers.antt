use Rattle.merge_laws.proofs.Proceeding.{new_segments_keep_order}
use Rattle.merge_laws.proofs.plans.new_segments_keep_order.Goals as goal

pub returns : goal.returns
returns c = new_segments_keep_order
