use Rattle.std.proofs.Common.{rules}
use Rattle.script_checks.proofs.FaultLemmas.{exits, checking}
use Rattle.script_checks.proofs.order_checks.makes.stream.Goals as goal

pub returns-in_err-name : goal.returns-in_err-name
returns-in_err-name c = exits _ _ c.from_residual.result _ c.from_residual.ensures.1 (search (rules, checking))

pub returns-in_err-count : goal.returns-in_err-count
returns-in_err-count c = exits _ _ c.from_residual-in_err-count.result _ c.from_residual-in_err-count.ensures.1 (search (rules, checking))

pub returns-in_err-room : goal.returns-in_err-room
returns-in_err-room c = exits _ _ c.from_residual-in_err-room.result _ c.from_residual-in_err-room.ensures.1 (search (rules, checking))

pub returns : goal.returns
returns c = (search (rules, checking), cc (c.in_ok-name.ensures.1, c.in_ok-count.ensures.1, c.in_ok-room.ensures.1))
