use Rattle.std.proofs.Common.{rules, Some}
use Rattle.frame_ast.specs.declared.script.Order.TheVariants as order
use Rattle.script_checks.proofs.OrderLemmas.{of_parts}
use Rattle.script_checks.proofs.FaultLemmas.{exits, checking}
use Rattle.frame_ast.specs.declared.name_kind.NameKind.TheVariants.{Handle}
use Rattle.script_checks.proofs.order_checks.changes.dispose_auto.Goals as goal

pub returns-in_err-name : goal.returns-in_err-name
returns-in_err-name c = exits _ _ c.from_residual.result _ c.from_residual.ensures.1 (search (rules, checking))

pub returns-in_err-handle : goal.returns-in_err-handle
returns-in_err-handle c = exits _ _ c.from_residual-in_err-handle.result _ c.from_residual-in_err-handle.ensures.1 (search (rules, checking))

pub returns : goal.returns
returns c = (
  search (rules, checking),
  of_parts (λ p h. order.DisposeAuto p h) _ _ _ _
      (c.in_ok-name.ensures.1 (Some (c.args.handle, Handle))) c.in_ok-handle.ensures.1,
)
