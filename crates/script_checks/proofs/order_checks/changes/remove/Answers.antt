use Rattle.std.proofs.Common.{rules, None}
use Rattle.script_checks.proofs.FaultLemmas.{exits, checking}
use Rattle.script_checks.proofs.NumberLemmas.{signed_kept}
use Rattle.script_checks.proofs.order_checks.changes.remove.Goals as goal

pub returns-in_err-name : goal.returns-in_err-name
returns-in_err-name c = exits _ _ c.from_residual.result _ c.from_residual.ensures.1 (search (rules, checking))

pub returns-in_err-at : goal.returns-in_err-at
returns-in_err-at c = exits _ _ c.from_residual-in_err-at.result _ c.from_residual-in_err-at.ensures.1 (search (rules, checking))

pub returns : goal.returns
returns c = (
  search (rules, checking),
  cc (
    c.in_ok-name.ensures.1 None,
    signed_kept c.args.source c.args.at c.in_ok-at.at c.in_ok-at.ensures.0
        c.in_ok-at.ensures.1,
  ),
)
