use Rattle.std.proofs.Common.{◌≡◌, ℕ, true, false, length, take}
use Rattle.job_base.specs.Cells.{cells_of}
use Rattle.frame_core.specs.Touches.{hits}
use Rattle.lock_board.specs.Rooms.{place_in}
use Rattle.lock_board.proofs.copying.copy_in.Given as goal

abbrev pub invariant-loop-i : goal.invariant-loop-i
invariant-loop-i l = record {
  size : length l.room ≡ length l.fn.room;
  done : (u : ℕ) → hits false (take l.i l.spans) u ≡ true → cells_of l.room (place_in l.spans u) ≡ cells_of l.cells u;
}
