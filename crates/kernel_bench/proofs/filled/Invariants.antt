use Rattle.std.proofs.Common.{◌≡◌, length}
use Rattle.kernel_bench.proofs.filled.Given as goal

abbrev pub invariant-loop-w : goal.invariant-loop-w
invariant-loop-w l = length l.mem ≡ l.cells
