use Rattle.std.proofs.Common.{rules}
use Rattle.script_checks.proofs.FaultLemmas.{exits, checking}
use Rattle.script_checks.proofs.order_checks.known.map.Goals as goal

pub returns-in_err-name : goal.returns-in_err-name
returns-in_err-name c = exits _ _ c.from_residual.result _ c.from_residual.ensures.1 (search (rules, checking))

pub returns-in_err-cap : goal.returns-in_err-cap
returns-in_err-cap c = exits _ _ c.from_residual-in_err-cap.result _ c.from_residual-in_err-cap.ensures.1 (search (rules, checking))

pub returns : goal.returns
returns c = (search (rules, checking), (cc (c.in_ok-name.ensures.1.0, c.in_ok-cap.ensures.1), c.in_ok-name.ensures.1.1))
