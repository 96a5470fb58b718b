use Rattle.slot_store.proofs.Waits.{found_some, found_none}
use Rattle.slot_store.proofs.pending.pending_of.Goals as goal

pub returns-in-None-clause-some : goal.returns-in-None-clause-some
returns-in-None-clause-some c = found_some c.args.users.now c.args.completed.now c.latest_outside.result c.latest_outside.ensures

pub returns-in-None-clause-none : goal.returns-in-None-clause-none
returns-in-None-clause-none c = found_none c.args.users.now c.args.completed.now c.latest_outside.result c.latest_outside.ensures
