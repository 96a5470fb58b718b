use Rattle.plan_laws.proofs.Schedules.Running.{all_indexes_run}
use Rattle.plan_laws.proofs.laws.all_indexes_run.Goals as goal

pub returns : goal.returns
returns c = all_indexes_run
