use Rattle.tree_laws.proofs.Scripts.{same_scripts_run_alike}
use Rattle.tree_laws.proofs.same_scripts_run_alike.Goals as goal

pub returns : goal.returns
returns c = same_scripts_run_alike
