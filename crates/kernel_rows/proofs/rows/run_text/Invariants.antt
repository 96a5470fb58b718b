use Rattle.std.proofs.Common.{◌≡◌, length}
use Rattle.kernel_rows.proofs.rows.run_text.Given as goal

abbrev pub invariant-loop : goal.invariant-loop
invariant-loop l = length l.mem ≡ 64
