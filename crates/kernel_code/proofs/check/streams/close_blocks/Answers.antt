use Rattle.std.proofs.Common.{◌∙◌, arith}
use Rattle.std.proofs.lemmas.Grind.{common_steps}
use Rattle.kernel_code.proofs.Streams.{stands_in-popped}
use Rattle.kernel_code.proofs.check.streams.close_blocks.Goals as goal

pub loop-block-preserved : goal.loop-block-preserved
loop-block-preserved c x j h =
    stands_in-popped x j _ _ _ c.in-Some.block.now (grind (arith, common_steps)) c.pop.ensures.items (omega (arith, c.if-block-node.false))
    ∙ c.loop-block.invariant x j h
