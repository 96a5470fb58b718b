use Rattle.std.proofs.Common.{◌≡◌, ℕ, ◌<◌, ◌≤◌, slice_index, bit_or}
use Rattle.job_handle.proofs.handle.Handle.add_all.Given as goal

abbrev pub invariant-loop-i : goal.invariant-loop-i
invariant-loop-i l = record {
  begun : l.other.low ≤ l.i;
  low : l.self.low ≤ l.other.low;
  high : l.other.high ≤ l.self.high;
  joined : (k : ℕ) → k < l.i → slice_index l.self.words k ≡ bit_or (slice_index l.fn.self.words k) (slice_index l.other.words k);
  kept : (k : ℕ) → l.i ≤ k → slice_index l.self.words k ≡ slice_index l.fn.self.words k;
}
