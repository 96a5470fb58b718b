use Rattle.tree_laws.proofs.Checks.{same_kernels_are_checked}
use Rattle.tree_laws.proofs.same_kernels_are_checked.Goals as goal

pub returns : goal.returns
returns c = same_kernels_are_checked
