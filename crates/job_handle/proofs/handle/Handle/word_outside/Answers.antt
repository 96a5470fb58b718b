use Rattle.job_handle.proofs.handle.Handle.word_outside.Goals as goal
use Rattle.job_handle.proofs.Words.{word_outside}

pub returns : goal.returns
returns c = word_outside c.args.self.now c.args.other.now c.args.at c.bits_without.result c.requires c.bits_without.ensures
