use Rattle.std.proofs.Common.{◌≡◌, ℕ, ◌<◌, ◌≤◌, true, false, length}
use Rattle.job_base.specs.Cells.{cells_of}
use Rattle.frame_core.specs.Touches.{hits}
use Rattle.lock_board.specs.Rooms.{place_in}
use Rattle.lock_board.proofs.copying.copy_words_in.Given as goal

abbrev pub invariant-loop-w : goal.invariant-loop-w
invariant-loop-w l = record {
  reach : l.from < l.w → l.w ≤ l.end;
  size : length l.room ≡ length l.fn.room;
  inside : (u : ℕ) → l.from ≤ u → u < l.w → cells_of l.room (place_in l.spans u) ≡ cells_of l.cells u;
  still : (u : ℕ) → hits false l.spans u ≡ true → cells_of l.fn.room (place_in l.spans u) ≡ cells_of l.cells u
      → cells_of l.room (place_in l.spans u) ≡ cells_of l.cells u;
}
