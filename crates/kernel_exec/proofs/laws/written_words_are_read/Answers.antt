use Rattle.kernel_exec.proofs.Pieces.{written_words_are_read}
use Rattle.kernel_exec.proofs.laws.written_words_are_read.Goals as goal

pub returns : goal.returns
returns c = written_words_are_read
