use Rattle.plan_laws.proofs.Schedules.Accepting.{schedules_are_planned}
use Rattle.plan_laws.proofs.laws.schedules_are_planned.Goals as goal

pub returns : goal.returns
returns c = schedules_are_planned
