use Rattle.plan_laws.proofs.Statements.Changing.{changes_are_planned}
use Rattle.plan_laws.proofs.laws.changes_are_planned.Goals as goal

pub returns : goal.returns
returns c = changes_are_planned
