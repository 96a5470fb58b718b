use Rattle.kernel_trees.proofs.Copied.{params_more}
use Rattle.kernel_trees.proofs.copies.copy_params.Goals as goal

pub loop-p-preserved : goal.loop-p-preserved
loop-p-preserved c =
    params_more c.args.params.now c.loop-p.p-index c.p-item.result c.loop-p.copy.items _ c.in_ok-param.field-0
    c.loop-p-test.true c.p-item.is c.loop-p.invariant c.in_ok-param.ensures c.in_ok-push.ensures.items
