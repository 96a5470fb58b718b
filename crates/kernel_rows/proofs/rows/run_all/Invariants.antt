use Rattle.std.proofs.Common.{◌≡◌, length}
use Rattle.kernel_rows.proofs.rows.run_all.Given as goal

abbrev pub invariant-loop-i : goal.invariant-loop-i
invariant-loop-i l = length l.mem ≡ length l.fn.mem
