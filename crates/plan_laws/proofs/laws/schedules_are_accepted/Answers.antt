use Rattle.plan_laws.proofs.Schedules.ScheduleTexts.{schedules_are_accepted}
use Rattle.plan_laws.proofs.laws.schedules_are_accepted.Goals as goal

pub returns : goal.returns
returns c = schedules_are_accepted
