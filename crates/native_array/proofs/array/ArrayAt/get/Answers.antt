use Rattle.native_array.proofs.Forms.{get_form}
use Rattle.native_array.proofs.array.ArrayAt.get.Goals as goal

pub returns-in-Ok-clause-form : goal.returns-in-Ok-clause-form
returns-in-Ok-clause-form g c = get_form c.args.self.now c.args.i

pub returns-in-Err-clause-form : goal.returns-in-Err-clause-form
returns-in-Err-clause-form g c = get_form c.args.self.now c.args.i
