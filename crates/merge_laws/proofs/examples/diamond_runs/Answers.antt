use Rattle.merge_laws.proofs.Diamond.WorkedRuns.{diamond_runs}
use Rattle.merge_laws.proofs.examples.diamond_runs.Goals as goal

pub returns : goal.returns
returns c = diamond_runs
