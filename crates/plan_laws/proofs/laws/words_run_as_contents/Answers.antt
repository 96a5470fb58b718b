use Rattle.plan_laws.proofs.Schedules.Running.{words_run_as_contents}
use Rattle.plan_laws.proofs.laws.words_run_as_contents.Goals as goal

pub returns : goal.returns
returns c = words_run_as_contents
