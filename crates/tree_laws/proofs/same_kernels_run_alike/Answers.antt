use Rattle.tree_laws.proofs.Runs.{same_kernels_run_alike}
use Rattle.tree_laws.proofs.same_kernels_run_alike.Goals as goal

pub returns : goal.returns
returns c = same_kernels_run_alike
