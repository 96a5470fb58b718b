use Rattle.plan_laws.proofs.Statements.Writable.{names_are_writable}
use Rattle.plan_laws.proofs.laws.names_are_writable.Goals as goal

pub returns : goal.returns
returns c = names_are_writable
