use Rattle.std.proofs.Common.{◌≡◌, length}
use Rattle.print_rows.proofs.rows.count.Given as goal

abbrev pub invariant-loop-i : goal.invariant-loop-i
invariant-loop-i l = length l.mem ≡ l.len
