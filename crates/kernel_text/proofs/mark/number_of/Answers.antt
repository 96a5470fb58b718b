use Rattle.kernel_text.proofs.Marks.{numbered}
use Rattle.kernel_text.proofs.mark.number_of.Goals as goal

pub returns-clause-number : goal.returns-clause-number
returns-clause-number c = numbered c.args.kind
