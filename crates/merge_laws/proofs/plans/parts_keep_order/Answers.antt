use Rattle.merge_laws.proofs.Starting.{parts_keep_order}
use Rattle.merge_laws.proofs.plans.parts_keep_order.Goals as goal

pub returns : goal.returns
returns c = parts_keep_order
