use Rattle.plan_laws.proofs.Statements.Accessing.{removes_are_planned}
use Rattle.plan_laws.proofs.laws.removes_are_planned.Goals as goal

pub returns : goal.returns
returns c = removes_are_planned
