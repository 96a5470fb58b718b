-- How many nodes a kernel has, and how deep they are, by the nodes of its raw form, which has no faults.
use Rattle.std.proofs.Common.{ℕ, ◌≡◌, ◌≤◌, inl, inr, None, List, length, sym, subst, arith}
use Rattle.frame_grammar.specs.declared.symbols.Event.{Event}
use Rattle.frame_ast.specs.declared.kernel.Kernel.{Kernel}
use Rattle.frame_ast.specs.Checked.{body_nodes, body_depth}
use Rattle.kernel_raw.specs.declared.raw.RawNode.{RawNode}
use Rattle.kernel_raw.specs.declared.raw.RawKernel.{RawKernel}
use Rattle.kernel_raw.specs.RawEvents.{SpellsRaw}
use Rattle.kernel_raw.specs.Raw.{block_size}
use Rattle.kernel_raw.specs.Depths.{depth_of}
use Rattle.kernel_code.specs.StaticFaults.{first_fault}
use Rattle.kernel_code.specs.Trees.{IsKernelOf}
use Rattle.kernel_code.proofs.Built.Kernels.{body-size}
use Rattle.kernel_code.proofs.Built.Counting.{block-count, all-kept}
use Rattle.kernel_code.proofs.Limits.Levels.{block_levels, Reaches, block_deep}
use Rattle.kernel_code.proofs.Limits.Depths.{block-depth}
use Rattle.kernel_code.proofs.Limits.Kernels.{faultless}

-- It has as many.
pub nodes : (events : List Event) (raw : RawKernel) (k : Kernel) (earlier : List Kernel) → SpellsRaw events raw → first_fault raw earlier ≡ None
    → IsKernelOf raw k →
    body_nodes k.body.statements.items ≡ length raw.nodes.items
nodes events raw k earlier s h is =
    let count = block-count (is.body events s) in
    let size = body-size events raw s (all-kept events raw s (faultless raw earlier h).1) in
    omega arith

-- levels are no more than the nodes that stand over each other
few-levels : (nodes : List RawNode) (n levels d : ℕ) → ((i : ℕ) → depth_of nodes i ≤ d) → Reaches 0 n levels nodes → levels ≤ d
few-levels nodes n levels d h (inl none) = omega arith
few-levels nodes n levels d h (inr r) =
    let deep = r.deep in
    let le = h r.at in
    omega arith

-- It is no deeper than all of them are.
pub depth : (events : List Event) (raw : RawKernel) (k : Kernel) (earlier : List Kernel) → SpellsRaw events raw → first_fault raw earlier ≡ None
    → IsKernelOf raw k →
    (d : ℕ) → ((i : ℕ) → depth_of raw.nodes.items i ≤ d) → body_depth k.body.statements.items ≤ d
depth events raw k earlier s h is d shallow =
    let all = all-kept events raw s (faultless raw earlier h).1 in
    let reaches = subst (λ ns. Reaches 0 (block_size s.body) (block_levels s.body) ns) (sym all) (block_deep None 0 s.body) in
    let few = few-levels raw.nodes.items (block_size s.body) (block_levels s.body) d shallow reaches in
    let same = block-depth (is.body events s) in
    omega arith
