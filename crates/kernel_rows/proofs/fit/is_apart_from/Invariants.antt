use Rattle.std.proofs.Common.{◌≡◌, ◌<◌, ℕ, Some, slice_get}
use Rattle.kernel_exec.specs.declared.binds.Bind.{Bind}
use Rattle.kernel_rows.specs.Standing.{Apart}
use Rattle.kernel_rows.proofs.fit.is_apart_from.Given as goal

abbrev pub invariant-loop-b : goal.invariant-loop-b
invariant-loop-b l = (x : ℕ) (b : Bind) → x < l.b-index → slice_get l.binds x ≡ Some b → Apart l.a b
