-- How a kernel's size is told from the raw form that it was read from.
use Rattle.std.specs.Prelude.{◌≡◌, ◌≤◌, ℕ, length}
use Rattle.frame_ast.specs.declared.kernel.Kernel.{Kernel}
use Rattle.frame_ast.specs.Checked.{body_nodes, body_depth}
use Rattle.kernel_raw.specs.declared.raw.RawKernel.{RawKernel}
use Rattle.kernel_raw.specs.Depths.{depth_of}

-- A kernel has as many nodes as a raw form, and is no deeper than the deepest of those.
pub record HasNodesOf (raw : RawKernel) (k : Kernel) : Type 0 where
  pub nodes : body_nodes k.body.statements.items ≡ length raw.nodes.items
  pub depth : (d : ℕ) → ((i : ℕ) → depth_of raw.nodes.items i ≤ d) → body_depth k.body.statements.items ≤ d
