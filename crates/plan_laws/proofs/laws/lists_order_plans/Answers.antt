use Rattle.plan_laws.proofs.WholePlans.{lists_order_plans}
use Rattle.plan_laws.proofs.laws.lists_order_plans.Goals as goal

pub returns : goal.returns
returns c = lists_order_plans
