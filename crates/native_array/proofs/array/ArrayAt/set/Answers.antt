use Rattle.native_array.proofs.Forms.{set_form}
use Rattle.native_array.proofs.array.ArrayAt.set.Goals as goal

pub returns-in-Ok-clause-form : goal.returns-in-Ok-clause-form
returns-in-Ok-clause-form g c = set_form c.args.self.now c.args.i c.args.v

pub returns-in-Err-clause-form : goal.returns-in-Err-clause-form
returns-in-Err-clause-form g c = set_form c.args.self.now c.args.i c.args.v
