use Rattle.std.proofs.Common.{◌≡◌, ℕ, ◌+◌, ◌-◌, ◌≤◌, vec_len, vec_capacity}
use Rattle.safety_handle.specs.Entries.{state_of}
use Rattle.safety_handle.proofs.book.SafetyBook.reach.Given as goal

abbrev pub invariant-loop-self : goal.invariant-loop-self
invariant-loop-self l = record {
  room : l.at + 1 ≤ vec_capacity l.self.readers;
  same : (k : ℕ) → state_of l.self k ≡ state_of l.fn.self k;
}

abbrev pub decreases-loop-self : goal.decreases-loop-self
decreases-loop-self l = l.at + 1 - vec_len l.self.entries
