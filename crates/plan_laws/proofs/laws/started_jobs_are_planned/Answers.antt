use Rattle.plan_laws.proofs.Schedules.Scheduling.{started_jobs_are_planned}
use Rattle.plan_laws.proofs.laws.started_jobs_are_planned.Goals as goal

pub returns : goal.returns
returns c = started_jobs_are_planned
