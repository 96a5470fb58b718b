use Rattle.plan_laws.proofs.Schedules.Leaving.{arguments_stand}
use Rattle.plan_laws.proofs.laws.arguments_stand.Goals as goal

pub returns : goal.returns
returns c = arguments_stand
