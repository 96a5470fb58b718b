use Rattle.plan_laws.proofs.Statements.Usable.{names_are_usable}
use Rattle.plan_laws.proofs.laws.names_are_usable.Goals as goal

pub returns : goal.returns
returns c = names_are_usable
