use Rattle.std.proofs.Common.{◌≡◌, ℕ, length}
use Rattle.lock_board.specs.Layouts.{row, times}
use Rattle.lock_board.proofs.followers.empty_rows.Given as goal

abbrev pub invariant-loop : goal.invariant-loop
invariant-loop l = record {
  size : length l.rows.items ≡ l.counter;
  none : (j e : ℕ) → times e (row l.rows.items j) ≡ 0;
}
