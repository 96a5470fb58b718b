use Rattle.plan_laws.proofs.Statements.Completing.{completes_are_planned}
use Rattle.plan_laws.proofs.laws.completes_are_planned.Goals as goal

pub returns : goal.returns
returns c = completes_are_planned
