use Rattle.plan_laws.proofs.Statements.Printing.{prints_are_planned}
use Rattle.plan_laws.proofs.laws.prints_are_planned.Goals as goal

pub returns : goal.returns
returns c = prints_are_planned
