use Rattle.std.proofs.Common.{length, ◌+◌, ◌-◌, ◌*◌}
use Rattle.kernel_code.proofs.check.expressions.+expression.Given as goal

abbrev pub decreases-atom : goal.decreases-atom
decreases-atom l = 3 * (length l.raw.now.nodes.items - l.at) + 1

abbrev pub decreases-chain : goal.decreases-chain
decreases-chain l = 3 * (length l.raw.now.nodes.items - l.left.next)

abbrev pub decreases-expression : goal.decreases-expression
decreases-expression l = 3 * (length l.raw.now.nodes.items - l.at) + 2
