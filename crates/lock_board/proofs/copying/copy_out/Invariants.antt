use Rattle.std.proofs.Common.{◌≡◌, ℕ, true, length, take, cond}
use Rattle.job_base.specs.Cells.{cells_of}
use Rattle.frame_core.specs.Touches.{hits}
use Rattle.lock_board.specs.Rooms.{place_in}
use Rattle.lock_board.proofs.copying.copy_out.Given as goal

abbrev pub invariant-loop-i : goal.invariant-loop-i
invariant-loop-i l = record {
  size : length l.cells ≡ length l.fn.cells;
  done : (u : ℕ) → cells_of l.cells u ≡ cond (hits true (take l.i l.spans) u) (cells_of l.room (place_in l.spans u)) (cells_of l.fn.cells u);
}
