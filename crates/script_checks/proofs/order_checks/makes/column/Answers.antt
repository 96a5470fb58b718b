use Rattle.std.proofs.Common.{rules}
use Rattle.script_checks.proofs.FaultLemmas.{exits, checking, exits_without_memory}
use Rattle.std.proofs.Common.{◌∙◌}
use Rattle.script_checks.proofs.order_checks.makes.column.Goals as goal

pub returns-in_err-name : goal.returns-in_err-name
returns-in_err-name c = exits _ _ c.from_residual.result _ c.from_residual.ensures.1 (search (rules, checking))

pub returns-in_err-text : goal.returns-in_err-text
returns-in_err-text c = exits _ _ c.from_residual-in_err-text.result _ c.from_residual-in_err-text.ensures.1 (search (rules, checking))

pub returns-in_err-column : goal.returns-in_err-column
returns-in_err-column c = exits_without_memory _ _ c.from_residual-in_err-column.result c.from_residual-in_err-column.ensures.1

pub returns : goal.returns
returns c = (search (rules, checking), (c.in_ok-column.column, c.in_ok-column.ensures.items ∙ c.in_ok-text.ensures.1, cc (c.in_ok-name.ensures.1)))
