use Rattle.kernel_exec.proofs.Pieces.{only_written_words_change}
use Rattle.kernel_exec.proofs.laws.only_written_words_change.Goals as goal

pub returns : goal.returns
returns c = only_written_words_change
