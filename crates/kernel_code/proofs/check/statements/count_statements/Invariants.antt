use Rattle.std.proofs.Common.{ℕ, ◌≡◌, ◌≤◌, ◌+◌, ◌-◌, Option}
use Rattle.kernel_raw.specs.Raw.{RawBlock, block_size}
use Rattle.kernel_code.specs.Places.{IsBlockHere}
use Rattle.kernel_code.proofs.Built.CountedBlocks.{IsCounted}
use Rattle.kernel_code.proofs.check.statements.count_statements.Given as goal

abbrev pub invariant-loop-at : goal.invariant-loop-at
invariant-loop-at l = record {
  few : l.count ≤ l.at;
  counted : (owner : Option ℕ) (b : RawBlock) → IsBlockHere l.raw owner l.from b → l.end ≡ l.from + block_size b → IsCounted l.raw owner l.at l.end b l.count;
}

abbrev pub decreases-loop-at : goal.decreases-loop-at
decreases-loop-at l = l.end - l.at
