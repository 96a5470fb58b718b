use Rattle.frame_ast.proofs.Blocking.{words_come_back}
use Rattle.frame_ast.proofs.laws.words_come_back.Goals as goal

pub returns : goal.returns
returns c = words_come_back
