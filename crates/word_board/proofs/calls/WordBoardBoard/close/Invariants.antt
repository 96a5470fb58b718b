use Rattle.std.proofs.Common.{◌≡◌, ℕ, ◌+◌, ◌<◌, length, get_or, pos, to_z, w64}
use mathlib.Core.Option.{some}
use lib.ListN.{get_elem?}
use Rattle.std.specs.Slots.{slots_items}
use Rattle.word_board.proofs.calls.WordBoardBoard.close.Given as goal

abbrev pub invariant-loop-w : goal.invariant-loop-w
invariant-loop-w l = record {
  size : length l.into ≡ length l.fn.into;
  written : (k : ℕ) → k < l.w → (x : ℕ) × (get_elem? (slots_items l.closed.words) (1 + k) ≡ some x) × (get_or l.into k (pos 0) ≡ to_z w64 x);
}
