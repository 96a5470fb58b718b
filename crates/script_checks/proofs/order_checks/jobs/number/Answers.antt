use Rattle.std.proofs.Common.{rules}
use Rattle.script_checks.proofs.FaultLemmas.{exits, checking}
use Rattle.script_checks.proofs.NumberLemmas.{signed_kept}
use Rattle.script_checks.proofs.order_checks.jobs.number.Goals as goal

pub returns-in_err-check_takes_number : goal.returns-in_err-check_takes_number
returns-in_err-check_takes_number c = exits _ _ c.from_residual.result _ c.from_residual.ensures.1 (search (rules, checking))

pub returns-in_err-value : goal.returns-in_err-value
returns-in_err-value c = exits _ _ c.from_residual-in_err-value.result _ c.from_residual-in_err-value.ensures.1 (search (rules, checking))

pub returns : goal.returns
returns c = (search (rules, checking), signed_kept c.args.source c.args.number c.in_ok-value.value c.in_ok-value.ensures.0 c.in_ok-value.ensures.1)
