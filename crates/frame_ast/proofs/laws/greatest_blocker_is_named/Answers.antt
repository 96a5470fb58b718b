use Rattle.frame_ast.proofs.Blocking.{greatest_blocker_is_named}
use Rattle.frame_ast.proofs.laws.greatest_blocker_is_named.Goals as goal

pub returns : goal.returns
returns c = greatest_blocker_is_named
