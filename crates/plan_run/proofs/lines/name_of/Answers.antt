use Rattle.plan_run.proofs.Printing.{none_there}
use Rattle.plan_run.proofs.lines.name_of.Goals as goal

pub returns-in-None : goal.returns-in-None
returns-in-None c = none_there (λ text. text.now) c.args.plan.now.names c.args.op.now.name c.get.result c.get.ensures c.in-None.is
