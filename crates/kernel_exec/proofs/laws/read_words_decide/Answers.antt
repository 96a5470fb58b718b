use Rattle.kernel_exec.proofs.Pieces.{read_words_decide}
use Rattle.kernel_exec.proofs.laws.read_words_decide.Goals as goal

pub returns : goal.returns
returns c = read_words_decide
