use Rattle.std.proofs.Common.{Some, None, refl}
use Rattle.plan_statements.proofs.waiting.is_stale.Goals as goal

pub returns-in-None : goal.returns-in-None
returns-in-None c = record { refusal = None; may = c.in-None.ensures; says = refl }

pub returns-in-Some : goal.returns-in-Some
returns-in-Some c = record { refusal = Some c.in-Some.refusal; may = c.in-Some.ensures; says = c.says_stale.ensures }
