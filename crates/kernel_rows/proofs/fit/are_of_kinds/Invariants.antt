use Rattle.std.proofs.Common.{◌≡◌, ◌<◌, ℕ, Some, slice_get}
use Rattle.frame_ast.specs.declared.kernel.Param.{Param}
use Rattle.kernel_exec.specs.declared.binds.Bind.{Bind}
use Rattle.kernel_exec.specs.Binds.{kind_of}
use Rattle.kernel_rows.proofs.fit.are_of_kinds.Given as goal

abbrev pub invariant-loop-x : goal.invariant-loop-x
invariant-loop-x l = (x : ℕ) (p : Param) (b : Bind) → x < l.x → slice_get l.params x ≡ Some p → slice_get l.binds x ≡ Some b → kind_of b ≡ p.kind
