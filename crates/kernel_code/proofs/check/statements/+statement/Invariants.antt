use Rattle.std.proofs.Common.{ℕ, ◌≡◌, ◌≤◌, Option, length, ◌+◌, ◌-◌, ◌*◌}
use Rattle.kernel_raw.specs.Raw.{RawBlock, block_size}
use Rattle.kernel_code.specs.Places.{IsBlockHere}
use Rattle.kernel_code.proofs.Built.Blocks.{IsPartly}
use Rattle.kernel_code.proofs.check.statements.+statement.Given as goal

abbrev pub decreases-statement : goal.decreases-statement
decreases-statement l = 2 * (length l.raw.now.nodes.items - l.at)

abbrev pub decreases-block : goal.decreases-block
decreases-block l = 2 * (length l.raw.now.nodes.items - l.from) + 1

abbrev pub invariant-block-loop-at : goal.invariant-block-loop-at
invariant-block-loop-at l = record {
  begins : l.from ≤ l.at;
  partly : (owner : Option ℕ) (b : RawBlock) → IsBlockHere l.raw owner l.from b → l.end ≡ l.from + block_size b
      → IsPartly l.raw owner l.from l.at l.end b l.statements.items;
}

abbrev pub decreases-block-loop-at : goal.decreases-block-loop-at
decreases-block-loop-at l = l.end - l.at
