use Rattle.plan_laws.proofs.Statements.Moving.{moves_are_planned}
use Rattle.plan_laws.proofs.laws.moves_are_planned.Goals as goal

pub returns : goal.returns
returns c = moves_are_planned
