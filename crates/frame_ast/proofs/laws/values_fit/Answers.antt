use Rattle.frame_ast.proofs.ValuesFit.{values_fit}
use Rattle.frame_ast.proofs.laws.values_fit.Goals as goal

pub returns : goal.returns
returns c = values_fit
