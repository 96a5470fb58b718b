use Rattle.native_list.proofs.Forms.{add_form}
use Rattle.native_list.proofs.ListAt.add.Goals as goal

pub returns-then-len-self-clause-form : goal.returns-then-len-self-clause-form
returns-then-len-self-clause-form g c = add_form c.args.self.now c.args.v

pub returns-else-len-self-clause-form : goal.returns-else-len-self-clause-form
returns-else-len-self-clause-form g c = add_form c.args.self.now c.args.v
