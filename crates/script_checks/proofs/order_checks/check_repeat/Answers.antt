use Rattle.std.proofs.Common.{rules}
use Rattle.script_checks.proofs.FaultLemmas.{exits, checking}
use Rattle.script_checks.proofs.order_checks.check_repeat.Goals as goal

pub returns-in_err-check_depth : goal.returns-in_err-check_depth
returns-in_err-check_depth c = exits _ _ c.from_residual.result _ c.from_residual.ensures.1 (search (rules, checking))

pub returns-in_err-count : goal.returns-in_err-count
returns-in_err-count c = exits _ _ c.from_residual-in_err-count.result _ c.from_residual-in_err-count.ensures.1 (search (rules, checking))

pub returns : goal.returns
returns c = (search (rules, checking), c.in_ok-count.ensures.1)
