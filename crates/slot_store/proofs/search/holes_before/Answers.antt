use Rattle.std.proofs.Common.{◌+◌, ◌-◌, ◌/◌, arith}
use Rattle.slot_store.proofs.Gives.{rises_to}
use Rattle.slot_store.proofs.search.holes_before.Goals as goal

pub loop-low-preserved-then-holes-middle : goal.loop-low-preserved-then-holes-middle
loop-low-preserved-then-holes-middle c = record {
  order = omega arith;
  within = omega arith;
  before = λ k lt. let r = rises_to c.args.holes.now c.requires.0 k (c.loop-low.low + (c.loop-low.high - c.loop-low.low) / 2) c.requires.1 (omega arith)
      (omega arith) in
      let h = c.if-holes-middle.true in omega arith;
  behind = λ k le lt. c.loop-low.invariant.behind k le lt;
}

pub loop-low-preserved : goal.loop-low-preserved
loop-low-preserved c = record {
  order = omega arith;
  within = omega arith;
  before = λ k lt. c.loop-low.invariant.before k lt;
  behind = λ k le lt. let r = rises_to c.args.holes.now c.requires.0 (c.loop-low.low + (c.loop-low.high - c.loop-low.low) / 2) k c.requires.1 le lt in
      let h = c.if-holes-middle.false in omega arith;
}
