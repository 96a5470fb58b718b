use Rattle.std.proofs.Common.{◌≡◌, ℕ, ◌<◌, ◌≤◌, slice_index}
use Rattle.job_handle.proofs.handle.Handle.clear.Given as goal

abbrev pub invariant-loop-i : goal.invariant-loop-i
invariant-loop-i l = record {
  begun : l.fn.self.low ≤ l.i;
  low : l.self.low ≡ l.fn.self.low;
  high : l.self.high ≡ l.fn.self.high;
  none : (k : ℕ) → k < l.i → slice_index l.self.words k ≡ 0;
  kept : (k : ℕ) → l.i ≤ k → slice_index l.self.words k ≡ slice_index l.fn.self.words k;
}
