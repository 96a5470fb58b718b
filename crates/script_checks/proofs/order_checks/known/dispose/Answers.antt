use Rattle.std.proofs.Common.{rules, None, ap}
use Rattle.frame_ast.specs.declared.script.Order.TheVariants as order
use Rattle.script_checks.proofs.FaultLemmas.{exits, checking}
use Rattle.script_checks.proofs.order_checks.known.dispose.Goals as goal

pub returns-in_err-name : goal.returns-in_err-name
returns-in_err-name c = exits _ _ c.from_residual.result _ c.from_residual.ensures.1 (search (rules, checking))

pub returns : goal.returns
returns c = (
  search (rules, checking),
  (c.new.result, c.new.ensures.items, ap (λ p. order.Dispose p c.new.result None) (c.in_ok-name.ensures.1 None)),
)
