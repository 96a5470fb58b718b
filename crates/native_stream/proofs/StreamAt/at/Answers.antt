use Rattle.native_stream.proofs.Forms.{at_form}
use Rattle.native_stream.proofs.StreamAt.at.Goals as goal

pub returns-in-Ok-clause-form : goal.returns-in-Ok-clause-form
returns-in-Ok-clause-form g c = at_form c.args.self.now c.args.i c.args.k

pub returns-in-Err-clause-form : goal.returns-in-Err-clause-form
returns-in-Err-clause-form g c = at_form c.args.self.now c.args.i c.args.k
