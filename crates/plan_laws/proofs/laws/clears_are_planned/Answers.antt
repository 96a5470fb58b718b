use Rattle.plan_laws.proofs.Statements.Accessing.{clears_are_planned}
use Rattle.plan_laws.proofs.laws.clears_are_planned.Goals as goal

pub returns : goal.returns
returns c = clears_are_planned
