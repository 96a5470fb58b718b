use Rattle.kernel_code.proofs.Built.Leaves.{negative_is, opposite_is}
use Rattle.kernel_code.proofs.check.expressions.unary.Goals as goal

pub returns-then-is_minus : goal.returns-then-is_minus
returns-then-is_minus c = negative_is _ _ c.if-is_minus.true

pub returns-else-is_minus : goal.returns-else-is_minus
returns-else-is_minus c = opposite_is _ _ c.if-is_minus.false
