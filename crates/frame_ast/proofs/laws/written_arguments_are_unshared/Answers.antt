use Rattle.frame_ast.proofs.Unshared.{written_arguments_are_unshared}
use Rattle.frame_ast.proofs.laws.written_arguments_are_unshared.Goals as goal

pub returns : goal.returns
returns c = written_arguments_are_unshared
