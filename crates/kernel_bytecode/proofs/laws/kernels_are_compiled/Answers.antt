use Rattle.std.proofs.Common.{List, ℕ, ℤ}
use Rattle.frame_ast.specs.Contents.{Contents}
use Rattle.kernel_bytecode.proofs.Executions.{kernels_are_compiled}
use Rattle.kernel_bytecode.proofs.laws.kernels_are_compiled.Goals as goal

pub returns-clause-of_contents : goal.returns-clause-of_contents
returns-clause-of_contents c = kernels_are_compiled (List Contents)

pub returns-clause-of_cells : goal.returns-clause-of_cells
returns-clause-of_cells c = kernels_are_compiled (ℕ → ℤ)
