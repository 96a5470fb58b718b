use Rattle.std.proofs.Common.{◌≡◌, ◌<◌, ◌≤◌, ℕ, Some}
use Rattle.std.specs.Prelude.{Vec, slice_get}
use Rattle.std.specs.declared.alloc.Global.{Global}
use Rattle.frame_core.specs.declared.touch.Touch.{Touch}
use Rattle.lock_board.specs.Rooms.{room_of}
use Rattle.lock_board.proofs.laying.find_room.Given as goal

abbrev pub invariant-loop-p : goal.invariant-loop-p
invariant-loop-p l = (q : ℕ) (v : Vec Touch Global) → q < l.p → slice_get l.all q ≡ Some v → room_of v.items ≤ l.room
