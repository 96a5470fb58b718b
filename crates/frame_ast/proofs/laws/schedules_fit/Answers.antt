use Rattle.frame_ast.proofs.GivenKinds.{schedules_fit}
use Rattle.frame_ast.proofs.laws.schedules_fit.Goals as goal

pub returns : goal.returns
returns c = schedules_fit
