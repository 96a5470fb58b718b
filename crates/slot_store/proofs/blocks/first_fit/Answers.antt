use Rattle.std.proofs.Common.{◌-◌, length, arith}
use Rattle.slot_store.proofs.Gives.{rises_to}
use Rattle.slot_store.proofs.blocks.first_fit.Goals as goal

pub loop-block-init : goal.loop-block-init
loop-block-init c = record {
  small = λ k lt below.
      let first = rises_to c.args.holes.now c.requires.holes.0 0 k c.requires.holes.1 (omega arith) lt in
      let block = c.block_of-block.ensures in absurd (omega arith);
  bounded = c.requires.bounded;
}

pub returns-clause-none : goal.returns-clause-none
returns-clause-none c = λ k lt.
    let last = rises_to c.args.holes.now c.requires.holes.0 k (length c.args.holes.now - 1) c.requires.holes.1 (omega arith) (omega arith) in
    let block = c.block_of-block-end.ensures in
    let past = c.loop-block-test.false in
    c.loop-block.invariant.small k lt (omega arith)
