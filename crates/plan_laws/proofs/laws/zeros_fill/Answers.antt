use Rattle.plan_laws.proofs.Statements.Filling.{zeros_fill}
use Rattle.plan_laws.proofs.laws.zeros_fill.Goals as goal

pub returns : goal.returns
returns c = zeros_fill
