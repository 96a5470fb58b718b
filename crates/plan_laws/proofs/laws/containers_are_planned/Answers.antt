use Rattle.plan_laws.proofs.Statements.Making.{containers_are_planned}
use Rattle.plan_laws.proofs.laws.containers_are_planned.Goals as goal

pub returns : goal.returns
returns c = containers_are_planned
