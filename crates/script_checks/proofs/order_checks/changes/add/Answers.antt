use Rattle.std.proofs.Common.{rules, None}
use Rattle.script_checks.proofs.FaultLemmas.{exits, checking}
use Rattle.script_checks.proofs.NumberLemmas.{signed_kept}
use Rattle.script_checks.proofs.order_checks.changes.add.Goals as goal

pub returns-in_err-name : goal.returns-in_err-name
returns-in_err-name c = exits _ _ c.from_residual.result _ c.from_residual.ensures.1 (search (rules, checking))

pub returns-in_err-first : goal.returns-in_err-first
returns-in_err-first c = exits _ _ c.from_residual-in_err-first.result _ c.from_residual-in_err-first.ensures.1 (search (rules, checking))

pub returns-in_err-second : goal.returns-in_err-second
returns-in_err-second c = exits _ _ c.from_residual-in_err-second.result _ c.from_residual-in_err-second.ensures.1 (search (rules, checking))

pub returns : goal.returns
returns c = (
  search (rules, checking),
  cc (
    c.in_ok-name.ensures.1 None,
    c.in_ok-second.ensures.1,
    signed_kept c.args.source c.args.first c.in_ok-first.first c.in_ok-first.ensures.0 c.in_ok-first.ensures.1,
  ),
)
