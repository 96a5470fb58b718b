use Rattle.plan_laws.proofs.Statements.Accessing.{puts_are_planned}
use Rattle.plan_laws.proofs.laws.puts_are_planned.Goals as goal

pub returns : goal.returns
returns c = puts_are_planned
