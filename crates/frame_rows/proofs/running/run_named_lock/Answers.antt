use Rattle.std.proofs.Common.{refl}
use Rattle.frame_rows.proofs.running.run_named_lock.Goals as goal

pub run_on-requires-clause-seats : goal.run_on-requires-clause-seats
run_on-requires-clause-seats g c lives within k seat at = (refl, c.in_ok-board.ensures.seats k seat at)
