use Rattle.native_list.proofs.Forms.{remove_form}
use Rattle.native_list.proofs.ListAt.remove_swap_back.Goals as goal

pub returns-then-i-lt0-clause-form : goal.returns-then-i-lt0-clause-form
returns-then-i-lt0-clause-form g c = remove_form c.args.self.now c.args.i

pub returns-clause-form : goal.returns-clause-form
returns-clause-form g c = remove_form c.args.self.now c.args.i
