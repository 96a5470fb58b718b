use Rattle.merge_laws.proofs.Proceeding.{moves_keep_order}
use Rattle.merge_laws.proofs.plans.moves_keep_order.Goals as goal

pub returns : goal.returns
returns c = moves_keep_order
