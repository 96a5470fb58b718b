use Rattle.std.proofs.Common.{ℕ, ◌-◌, ◌<◌, ◌≤◌, length}
use Rattle.slot_store.specs.Spaces.{start_of}
use Rattle.slot_store.proofs.search.holes_before.Given as goal

abbrev pub invariant-loop-low : goal.invariant-loop-low
invariant-loop-low l = record {
  order : l.low ≤ l.high;
  within : l.high ≤ length l.holes;
  before : (k : ℕ) → k < l.low → start_of l.holes k < l.at;
  behind : (k : ℕ) → l.high ≤ k → k < length l.holes → l.at ≤ start_of l.holes k;
}

abbrev pub decreases-loop-low : goal.decreases-loop-low
decreases-loop-low l = l.high - l.low
