use Rattle.std.proofs.Common.{ℕ, ◌<◌, ◌≤◌}
use Rattle.slot_store.specs.Spaces.{len_of}
use Rattle.slot_store.proofs.blocks.seek.Given as goal

abbrev pub invariant-loop-i : goal.invariant-loop-i
invariant-loop-i l = record {
  short : l.most < l.len;
  most : (k : ℕ) → l.first ≤ k → k < l.i → len_of l.holes k ≤ l.most;
}
