use Rattle.std.proofs.Common.{◌≡◌, ◌+◌, drop}
use Rattle.kernel_raw.specs.Widths.{count_wide}
use Rattle.kernel_raw.proofs.depths.count_wide.Given as goal

-- those counted and those to come are all
abbrev pub invariant-loop-node : goal.invariant-loop-node
invariant-loop-node l = l.count + count_wide (drop l.node-index l.nodes) ≡ count_wide l.nodes
