use Rattle.std.proofs.Common.{take}
use Rattle.tree_laws.specs.Same.{SameParam, Pairwise}
use Rattle.kernel_trees.proofs.copies.copy_params.Given as goal

abbrev pub invariant-loop-p : goal.invariant-loop-p
invariant-loop-p l = Pairwise SameParam (take l.p-index l.params) l.copy.items
