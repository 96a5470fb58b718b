use Rattle.native_stream.proofs.Forms.{write_form}
use Rattle.native_stream.proofs.StreamAt.write.Goals as goal

pub returns-then-n-self-clause-form : goal.returns-then-n-self-clause-form
returns-then-n-self-clause-form g c = write_form c.args.self.now c.args.i c.args.v c.requires.index

pub returns-else-n-self-clause-form : goal.returns-else-n-self-clause-form
returns-else-n-self-clause-form g c = write_form c.args.self.now c.args.i c.args.v c.requires.index
