use Rattle.std.proofs.Common.{◌≡◌}
use Rattle.lock_board.proofs.Spans.{Unmet}
use Rattle.lock_board.proofs.joining.add_touch.Given as goal

abbrev pub invariant-loop-i : goal.invariant-loop-i
invariant-loop-i l = record { same : l.spans.items ≡ l.fn.spans.items; unmet : Unmet l.spans.items l.t l.i }
