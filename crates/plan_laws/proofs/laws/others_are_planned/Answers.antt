use Rattle.plan_laws.proofs.Statements.Disposing.{others_are_planned}
use Rattle.plan_laws.proofs.laws.others_are_planned.Goals as goal

pub returns : goal.returns
returns c = others_are_planned
