use Rattle.std.proofs.Common.{refl, arith}
use Rattle.std.proofs.lemmas.Option.{slice_get_read, slice_get_past}
use Rattle.kernel_code.proofs.Built.CountedBlocks.{counted_start, counted_next, counted_end, counted_missing}
use Rattle.kernel_code.proofs.check.statements.count_statements.Goals as goal

pub loop-at-init : goal.loop-at-init
loop-at-init c = record {
  few = omega arith;
  counted = λ owner b here e. counted_start c.args.raw.now owner c.args.from c.args.end b here e;
}

pub loop-at-preserved : goal.loop-at-preserved
loop-at-preserved c = record {
  few = let h = c.loop-at.invariant.few in omega arith;
  counted = λ owner b here e.
      let raw = c.args.raw.now in
      counted_next raw owner c.loop-at.at c.args.end b c.loop-at.count c.index.result.now c.loop-at-test.true
      (slice_get_read raw.nodes.items _ c.loop-at.at c.index.result.now refl (omega arith) c.index.ensures) (c.loop-at.invariant.counted owner b here e);
}

pub returns-else-at-len : goal.returns-else-at-len
returns-else-at-len c owner b here e =
    let raw = c.args.raw.now in
    counted_missing raw owner c.loop-at.at c.args.end b c.loop-at.count c.loop-at-test.true (slice_get_past raw.nodes.items c.loop-at.at (omega arith))
    (c.loop-at.invariant.counted owner b here e)

pub returns-after-loop-at : goal.returns-after-loop-at
returns-after-loop-at c owner b here e = counted_end c.args.raw.now owner c.loop-at.at c.args.end b c.loop-at.count c.loop-at-test.false
    (c.loop-at.invariant.counted owner b here e)
