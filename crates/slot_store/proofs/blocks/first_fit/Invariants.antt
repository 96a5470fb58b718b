use Rattle.std.proofs.Common.{ℕ, ◌<◌, length}
use Rattle.slot_store.specs.Spaces.{start_of, len_of}
use Rattle.slot_store.specs.Blocks.{block_of, AreBounded}
use Rattle.slot_store.proofs.blocks.first_fit.Given as goal

abbrev pub invariant-loop-block : goal.invariant-loop-block
invariant-loop-block l = record {
  small : (k : ℕ) → k < length l.holes → block_of (start_of l.holes k) < l.block → len_of l.holes k < l.len;
  bounded : AreBounded l.bounds.lens.items l.holes;
}
