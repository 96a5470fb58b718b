use Rattle.std.proofs.Common.{◌≡◌, ◌<◌, ◌≤◌, ℕ, Some, slice_get}
use Rattle.kernel_exec.specs.declared.binds.Bind.{Bind}
use Rattle.kernel_exec.specs.Binds.{end_of}
use Rattle.kernel_rows.proofs.fit.are_below.Given as goal

abbrev pub invariant-loop-b : goal.invariant-loop-b
invariant-loop-b l = (x : ℕ) (b : Bind) → x < l.b-index → slice_get l.binds x ≡ Some b → end_of b ≤ l.n
