use Rattle.std.proofs.Common.{◌≡◌, [], drop}
use Rattle.lock_board.specs.Rooms.{joined_to}
use Rattle.lock_board.proofs.joining.join.Given as goal

abbrev pub invariant-loop-i : goal.invariant-loop-i
invariant-loop-i l = joined_to [] l.touches ≡ joined_to l.spans.items (drop l.i l.touches)
