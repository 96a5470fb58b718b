use Rattle.plan_laws.proofs.Operations.{operations_are_planned}
use Rattle.plan_laws.proofs.laws.operations_are_planned.Goals as goal

pub returns : goal.returns
returns c = operations_are_planned
