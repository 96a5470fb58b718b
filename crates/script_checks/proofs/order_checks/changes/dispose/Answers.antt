use Rattle.std.proofs.Common.{rules}
use Rattle.frame_ast.specs.declared.script.Order.TheVariants as order
use Rattle.script_checks.proofs.OrderLemmas.{of_parts}
use Rattle.script_checks.proofs.FaultLemmas.{exits, checking}
use Rattle.script_checks.specs.Faults.{made_as}
use Rattle.script_checks.proofs.order_checks.changes.dispose.Goals as goal

pub returns-in_err-name : goal.returns-in_err-name
returns-in_err-name c = exits _ _ c.from_residual.result _ c.from_residual.ensures.1 (search (rules, checking))

pub returns-in_err-after : goal.returns-in_err-after
returns-in_err-after c = exits _ _ c.from_residual-in_err-after.result _ c.from_residual-in_err-after.ensures.1 (search (rules, checking))

pub returns-in_err-handle : goal.returns-in_err-handle
returns-in_err-handle c = exits _ _ c.from_residual-in_err-handle.result _ c.from_residual-in_err-handle.ensures.1 (search (rules, checking))

pub returns : goal.returns
returns c = (
  search (rules, checking),
  (
    c.in_ok-after.after,
    c.in_ok-after.ensures.1 (made_as c.args.handle),
    of_parts
        (λ p h. order.Dispose p c.in_ok-after.after h) _ _ _ _ (c.in_ok-name.ensures.1 (made_as c.args.handle)) c.in_ok-handle.ensures.1,
  ),
)
