use Rattle.std.proofs.Common.{◌≡◌, ◌<◌, ℕ, Some, slice_get}
use Rattle.kernel_exec.specs.declared.binds.Bind.{Bind}
use Rattle.kernel_rows.specs.Standing.{Apart}
use Rattle.kernel_rows.proofs.fit.are_apart.Given as goal

abbrev pub invariant-loop-x : goal.invariant-loop-x
invariant-loop-x l = (x y : ℕ) (a b : Bind) → x < y → y < l.x → slice_get l.binds x ≡ Some a → slice_get l.binds y ≡ Some b → Apart b a
