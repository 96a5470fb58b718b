use Rattle.plan_laws.proofs.Statements.Disposing.{disposals_are_planned}
use Rattle.plan_laws.proofs.laws.disposals_are_planned.Goals as goal

pub returns : goal.returns
returns c = disposals_are_planned
