use Rattle.std.proofs.Common.{rules, Some}
use Rattle.script_checks.proofs.FaultLemmas.{exits, checking}
use Rattle.script_checks.proofs.OrderLemmas.{of_parts}
use Rattle.script_checks.proofs.order_checks.jobs.list_and_batch.Goals as goal

pub returns-in_err-list : goal.returns-in_err-list
returns-in_err-list c = exits _ _ c.from_residual.result _ c.from_residual.ensures.1 (search (rules, checking))

pub returns-in_err-batch : goal.returns-in_err-batch
returns-in_err-batch c = exits _ _ c.from_residual-in_err-batch.result _ c.from_residual-in_err-batch.ensures.1 (search (rules, checking))

pub returns : goal.returns
returns c = (search (rules, checking), (λ m. of_parts (λ p n. Some (p, n)) _ _ _ _ (c.in_ok-list.ensures.1 m) c.in_ok-batch.ensures.1))
