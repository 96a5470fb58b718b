use Rattle.std.proofs.Common.{◌≡◌, ◌+◌, drop}
use Rattle.lock_board.specs.Rooms.{room_of}
use Rattle.lock_board.proofs.laying.sum_sizes.Given as goal

abbrev pub invariant-loop-i : goal.invariant-loop-i
invariant-loop-i l = room_of l.spans ≡ l.sum + room_of (drop l.i l.spans)
