use Rattle.kernel_trees.proofs.SizeLemmas.{IsSizeUpTo}
use Rattle.kernel_trees.proofs.sizes.+measure.Given as goal

abbrev pub invariant-block-loop-s : goal.invariant-block-loop-s
invariant-block-loop-s l = IsSizeUpTo l.body l.s-index l.size
