use Rattle.std.proofs.Common.{rules, None}
use Rattle.script_checks.proofs.FaultLemmas.{exits, checking}
use Rattle.script_checks.proofs.NumberLemmas.{signed_kept}
use Rattle.script_checks.proofs.order_checks.changes.put.Goals as goal

pub returns-in_err-name : goal.returns-in_err-name
returns-in_err-name c = exits _ _ c.from_residual.result _ c.from_residual.ensures.1 (search (rules, checking))

pub returns-in_err-key : goal.returns-in_err-key
returns-in_err-key c = exits _ _ c.from_residual-in_err-key.result _ c.from_residual-in_err-key.ensures.1 (search (rules, checking))

pub returns-in_err-value : goal.returns-in_err-value
returns-in_err-value c = exits _ _ c.from_residual-in_err-value.result _ c.from_residual-in_err-value.ensures.1 (search (rules, checking))

pub returns : goal.returns
returns c = (
  search (rules, checking),
  cc (
    c.in_ok-name.ensures.1 None,
    signed_kept c.args.source c.args.key c.in_ok-key.key c.in_ok-key.ensures.0
        c.in_ok-key.ensures.1,
    signed_kept c.args.source c.args.value c.in_ok-value.value c.in_ok-value.ensures.0 c.in_ok-value.ensures.1,
  ),
)
