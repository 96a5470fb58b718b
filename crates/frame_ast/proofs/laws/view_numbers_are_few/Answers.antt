use Rattle.frame_ast.proofs.Breaking.{view_numbers_are_few}
use Rattle.frame_ast.proofs.laws.view_numbers_are_few.Goals as goal

pub returns : goal.returns
returns c = view_numbers_are_few
