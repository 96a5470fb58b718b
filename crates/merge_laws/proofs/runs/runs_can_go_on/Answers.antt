use Rattle.merge_laws.proofs.Progress.{runs_can_go_on}
use Rattle.merge_laws.proofs.runs.runs_can_go_on.Goals as goal

pub returns : goal.returns
returns c = runs_can_go_on
