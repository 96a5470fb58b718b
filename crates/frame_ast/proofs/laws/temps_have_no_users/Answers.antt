use Rattle.frame_ast.proofs.Unused.{temps_have_no_users}
use Rattle.frame_ast.proofs.laws.temps_have_no_users.Goals as goal

pub returns : goal.returns
returns c = temps_have_no_users
