use Rattle.tree_laws.proofs.Scripts.{same_scripts_have_no_trap}
use Rattle.tree_laws.proofs.same_scripts_have_no_trap.Goals as goal

pub returns : goal.returns
returns c = same_scripts_have_no_trap
