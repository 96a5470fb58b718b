use Rattle.plan_laws.proofs.Statements.Disposing.{ends_are_planned}
use Rattle.plan_laws.proofs.laws.ends_are_planned.Goals as goal

pub returns : goal.returns
returns c = ends_are_planned
