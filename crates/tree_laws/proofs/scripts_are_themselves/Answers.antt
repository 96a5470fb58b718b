use Rattle.tree_laws.proofs.Itself.{scripts_are_themselves}
use Rattle.tree_laws.proofs.scripts_are_themselves.Goals as goal

pub returns : goal.returns
returns c = scripts_are_themselves
