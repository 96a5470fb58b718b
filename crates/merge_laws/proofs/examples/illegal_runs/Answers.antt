use Rattle.merge_laws.proofs.Diamond.WorkedRuns.{illegal_runs}
use Rattle.merge_laws.proofs.examples.illegal_runs.Goals as goal

pub returns : goal.returns
returns c = illegal_runs
