use Rattle.plan_laws.proofs.Schedules.LeftWords.{jobs_leave}
use Rattle.plan_laws.proofs.laws.jobs_leave.Goals as goal

pub returns : goal.returns
returns c = jobs_leave
