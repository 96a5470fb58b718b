use Rattle.frame_ast.proofs.NameKinds.{names_keep_their_kinds}
use Rattle.frame_ast.proofs.laws.names_keep_their_kinds.Goals as goal

pub returns : goal.returns
returns c = names_keep_their_kinds
