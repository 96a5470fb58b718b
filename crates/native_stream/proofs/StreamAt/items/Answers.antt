use Rattle.native_stream.proofs.Forms.{items_form}
use Rattle.native_stream.proofs.StreamAt.items.Goals as goal

pub returns-in-Ok-clause-form : goal.returns-in-Ok-clause-form
returns-in-Ok-clause-form g c = items_form c.args.self.now c.args.i

pub returns-in-Err-clause-form : goal.returns-in-Err-clause-form
returns-in-Err-clause-form g c = items_form c.args.self.now c.args.i
