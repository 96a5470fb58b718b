use Rattle.native_list.proofs.Forms.{set_form}
use Rattle.native_list.proofs.ListAt.set.Goals as goal

pub returns-clause-form : goal.returns-clause-form
returns-clause-form g c = set_form c.args.self.now c.args.i c.args.v
