use Rattle.merge_laws.proofs.Diamond.WorkedPlans.{reuse_is_in_order}
use Rattle.merge_laws.proofs.examples.reuse_is_in_order.Goals as goal

pub returns : goal.returns
returns c = reuse_is_in_order
