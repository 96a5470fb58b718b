use Rattle.std.proofs.Common.{rules, arith, ap}
use Rattle.frame_ast.specs.declared.kernel.Stmt.TheViews.{the_lemmas}
use Rattle.kernel_trees.proofs.SizeLemmas.{size_at_start, statement_small, size_more, size_at_end}
use Rattle.kernel_trees.proofs.sizes.+measure.Goals as goal

pub block-loop-s-init : goal.block-loop-s-init
block-loop-s-init t c = size_at_start c.args.body.now

pub block-statement-requires : goal.block-statement-requires
block-statement-requires t c =
    let small = statement_small c.args.body.now c.loop-s.s-index c.s-item.result c.loop-s-test.true c.s-item.is c.requires c.loop-s.size c.loop-s.invariant in
    (search (rules, the_lemmas), omega (arith, small))

pub block-beside-size-requires-clause-small : goal.block-beside-size-requires-clause-small
block-beside-size-requires-clause-small t c =
    let small = statement_small c.args.body.now c.loop-s.s-index c.s-item.result c.loop-s-test.true c.s-item.is c.requires c.loop-s.size c.loop-s.invariant in
    omega (arith, small, ap (λ z. z.nodes) c.statement.ensures.size)

pub block-beside-size-requires-clause-shallow : goal.block-beside-size-requires-clause-shallow
block-beside-size-requires-clause-shallow t c = c.loop-s.invariant.shallow

pub block-loop-s-preserved : goal.block-loop-s-preserved
block-loop-s-preserved t c =
    size_more c.args.body.now c.loop-s.s-index c.s-item.result c.loop-s.size c.statement.result c.beside-size.result c.loop-s-test.true c.s-item.is
    c.loop-s.invariant
    c.statement.ensures.size c.beside-size.ensures.size c.beside-size.ensures.shallow

pub block-returns-clause-size : goal.block-returns-clause-size
block-returns-clause-size t c = size_at_end c.args.body.now c.loop-s.s-index c.loop-s.size (omega (arith, c.loop-s-test.false)) c.loop-s.invariant

pub block-returns-clause-shallow : goal.block-returns-clause-shallow
block-returns-clause-shallow t c = c.loop-s.invariant.shallow
