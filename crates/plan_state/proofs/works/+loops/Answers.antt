use Rattle.std.proofs.Common.{arith, sym, ◌∙◌}
use Rattle.plan_state.proofs.Loops.{loop_here, no_loop_here, no_loop}
use Rattle.plan_state.proofs.works.+loops.Goals as goal

pub body_has_loop-returns-then-has_loop : goal.body_has_loop-returns-then-has_loop
body_has_loop-returns-then-has_loop t c =
    loop_here c.args.body.now c.loop-s.s-index c.s-item.result c.loop-s-test.true c.s-item.is c.loop-s.invariant
    (sym c.has_loop.ensures ∙ c.if-has_loop.true)

pub body_has_loop-loop-s-preserved : goal.body_has_loop-loop-s-preserved
body_has_loop-loop-s-preserved t c =
    no_loop_here c.args.body.now c.loop-s.s-index c.s-item.result c.loop-s-test.true c.s-item.is c.loop-s.invariant
    (sym c.has_loop.ensures ∙ c.if-has_loop.false)

pub body_has_loop-returns : goal.body_has_loop-returns
body_has_loop-returns t c = no_loop c.args.body.now c.loop-s.s-index (omega arith) c.loop-s.invariant
