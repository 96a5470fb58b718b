use Rattle.std.proofs.Common.{◌≡◌, ◌+◌, true, false, drop}
use Rattle.frame_core.specs.Touches.{hits}
use Rattle.lock_board.specs.Rooms.{place_in, room_of}
use Rattle.lock_board.proofs.copying.place_in.Given as goal

abbrev pub invariant-loop-i : goal.invariant-loop-i
invariant-loop-i l = record {
  place : place_in l.spans l.w ≡ l.at + place_in (drop l.i l.spans) l.w;
  room : room_of l.spans ≡ l.at + room_of (drop l.i l.spans);
  later : hits false (drop l.i l.spans) l.w ≡ true;
}
