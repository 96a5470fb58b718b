use Rattle.tree_laws.proofs.Itself.{kernels_are_themselves}
use Rattle.tree_laws.proofs.kernels_are_themselves.Goals as goal

pub returns : goal.returns
returns c = kernels_are_themselves
