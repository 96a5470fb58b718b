use Rattle.plan_laws.proofs.Statements.Writable.{accepted_names_are_writable}
use Rattle.plan_laws.proofs.laws.accepted_names_are_writable.Goals as goal

pub returns : goal.returns
returns c = accepted_names_are_writable
