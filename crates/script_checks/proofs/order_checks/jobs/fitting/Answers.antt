use Rattle.std.proofs.Common.{rules}
use Rattle.script_checks.proofs.FaultLemmas.{exits, checking}
use Rattle.script_checks.proofs.NumberLemmas.{holds_from}
use Rattle.script_checks.proofs.order_checks.jobs.fitting.Goals as goal

pub returns-in_err-takes : goal.returns-in_err-takes
returns-in_err-takes c = exits _ _ c.from_residual.result _ c.from_residual.ensures.1 (search (rules, checking))

pub returns-in_err-leaves_room : goal.returns-in_err-leaves_room
returns-in_err-leaves_room c = exits _ _ c.from_residual-in_err-leaves_room.result _ c.from_residual-in_err-leaves_room.ensures.1 (search (rules, checking))

pub returns : goal.returns
returns c = (search (rules, checking), holds_from _ _ _ c.in_ok-takes.ensures.0)
