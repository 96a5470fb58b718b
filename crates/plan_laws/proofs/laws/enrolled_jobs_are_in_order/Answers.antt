use Rattle.plan_laws.proofs.Schedules.Enrolling.{enrolled_jobs_are_in_order}
use Rattle.plan_laws.proofs.laws.enrolled_jobs_are_in_order.Goals as goal

pub returns : goal.returns
returns c = enrolled_jobs_are_in_order
