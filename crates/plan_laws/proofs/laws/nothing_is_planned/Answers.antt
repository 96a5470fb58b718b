use Rattle.plan_laws.proofs.AtStart.{nothing_is_planned}
use Rattle.plan_laws.proofs.laws.nothing_is_planned.Goals as goal

pub returns : goal.returns
returns c = nothing_is_planned
