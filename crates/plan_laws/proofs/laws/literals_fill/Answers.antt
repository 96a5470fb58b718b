use Rattle.plan_laws.proofs.Statements.Filling.{literals_fill}
use Rattle.plan_laws.proofs.laws.literals_fill.Goals as goal

pub returns : goal.returns
returns c = literals_fill
