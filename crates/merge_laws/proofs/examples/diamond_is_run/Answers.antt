use Rattle.merge_laws.proofs.Diamond.WorkedBoard.{diamond_is_run}
use Rattle.merge_laws.proofs.examples.diamond_is_run.Goals as goal

pub returns : goal.returns
returns c = diamond_is_run
