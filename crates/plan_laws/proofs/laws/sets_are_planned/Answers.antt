use Rattle.plan_laws.proofs.Statements.Accessing.{sets_are_planned}
use Rattle.plan_laws.proofs.laws.sets_are_planned.Goals as goal

pub returns : goal.returns
returns c = sets_are_planned
