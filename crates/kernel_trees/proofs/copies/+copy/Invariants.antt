use Rattle.std.proofs.Common.{take}
use Rattle.tree_laws.specs.Same.{SameBody}
use Rattle.kernel_trees.proofs.copies.+copy.Given as goal

abbrev pub invariant-copy_statements-loop-s : goal.invariant-copy_statements-loop-s
invariant-copy_statements-loop-s l = SameBody (take l.s-index l.body) l.copy.items
