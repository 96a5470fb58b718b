use Rattle.std.proofs.Common.{◌≡◌, ℕ, ◌<◌, ◌≤◌, length}
use Rattle.job_base.specs.Cells.{cells_of}
use Rattle.lock_board.specs.Rooms.{place_in}
use Rattle.lock_board.proofs.copying.copy_words_out.Given as goal

abbrev pub invariant-loop-w : goal.invariant-loop-w
invariant-loop-w l = record {
  reach : l.from < l.w → l.w ≤ l.end;
  size : length l.cells ≡ length l.fn.cells;
  inside : (u : ℕ) → l.from ≤ u → u < l.w → cells_of l.cells u ≡ cells_of l.room (place_in l.spans u);
  before : (u : ℕ) → u < l.from → cells_of l.cells u ≡ cells_of l.fn.cells u;
  behind : (u : ℕ) → l.w ≤ u → cells_of l.cells u ≡ cells_of l.fn.cells u;
}
