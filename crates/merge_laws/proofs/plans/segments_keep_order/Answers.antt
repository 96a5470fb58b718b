use Rattle.merge_laws.proofs.Touching.{segments_keep_order}
use Rattle.merge_laws.proofs.plans.segments_keep_order.Goals as goal

pub returns : goal.returns
returns c = segments_keep_order
