use Rattle.plan_laws.proofs.Statements.Refusing.{refusals_are_planned}
use Rattle.plan_laws.proofs.laws.refusals_are_planned.Goals as goal

pub returns : goal.returns
returns c = refusals_are_planned
