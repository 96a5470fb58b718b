use Rattle.std.proofs.Common.{◌≡◌, length}
use Rattle.kernel_bench.proofs.run_all.Given as goal

abbrev pub invariant-loop : goal.invariant-loop
invariant-loop l = length l.mem ≡ l.cells
