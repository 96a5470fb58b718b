use Rattle.std.proofs.Common.{◌≡◌, length}
use Rattle.kernel_rows.proofs.rows.show.Given as goal

abbrev pub invariant-loop-w : goal.invariant-loop-w
invariant-loop-w l = length l.mem ≡ 64
