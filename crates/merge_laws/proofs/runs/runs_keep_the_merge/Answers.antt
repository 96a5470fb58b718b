use Rattle.merge_laws.proofs.Running.{runs_keep_the_merge}
use Rattle.merge_laws.proofs.runs.runs_keep_the_merge.Goals as goal

pub returns : goal.returns
returns c = runs_keep_the_merge
