use Rattle.plan_laws.proofs.Finishing.{finished_plans_are_ordered}
use Rattle.plan_laws.proofs.laws.finished_plans_are_ordered.Goals as goal

pub returns : goal.returns
returns c = finished_plans_are_ordered
