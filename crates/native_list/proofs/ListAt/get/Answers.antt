use Rattle.native_list.proofs.Forms.{get_form}
use Rattle.native_list.proofs.ListAt.get.Goals as goal

pub returns-clause-form : goal.returns-clause-form
returns-clause-form g c = get_form c.args.self.now c.args.i
