use Rattle.kernel_exec.proofs.Pieces.{indexes_are_cut}
use Rattle.kernel_exec.proofs.laws.indexes_are_cut.Goals as goal

pub returns : goal.returns
returns c = indexes_are_cut
