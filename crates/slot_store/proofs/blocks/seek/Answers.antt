use Rattle.std.proofs.Common.{⊎_elim, arith}
use Rattle.std.proofs.lemmas.Bool.{cases_lt}
use Rattle.slot_store.proofs.Bounding.{before_block, behind_block}
use Rattle.slot_store.proofs.blocks.seek.Goals as goal

pub returns-then-block-block_of-clause-err : goal.returns-then-block-block_of-clause-err
returns-then-block-block_of-clause-err c = (
  c.loop-i.invariant.short,
  λ k lt e. ⊎_elim
      (λ low. let b = before_block c.args.holes.now c.args.block c.holes_before-first.result k c.holes_before-first.ensures low in absurd (omega arith))
      (λ high. ⊎_elim
      (λ passed. c.loop-i.invariant.most k high passed)
      (λ behind. let b = behind_block c.args.holes.now c.requires.holes.0 c.loop-i.i k c.requires.holes.1 behind lt in
      let later = c.if-block-block_of.true in let is = c.block_of.ensures in absurd (omega arith))
      (cases_lt k c.loop-i.i))
      (cases_lt k c.holes_before-first.result),
)
