use Rattle.plan_laws.proofs.Statements.Accessing.{adds_are_planned}
use Rattle.plan_laws.proofs.laws.adds_are_planned.Goals as goal

pub returns : goal.returns
returns c = adds_are_planned
