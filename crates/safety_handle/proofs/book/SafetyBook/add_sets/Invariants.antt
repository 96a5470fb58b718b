use Rattle.std.proofs.Common.{◌≡◌, ℕ, ◌+◌, ◌-◌, vec_len}
use Rattle.safety_handle.specs.Entries.{state_of}
use Rattle.safety_handle.proofs.book.SafetyBook.add_sets.Given as goal

abbrev pub invariant-loop-self : goal.invariant-loop-self
invariant-loop-self l = record {
  entries : l.self.entries ≡ l.initial.self.entries;
  same : (k : ℕ) → state_of l.self k ≡ state_of l.initial.self k;
}

abbrev pub decreases-loop-self : goal.decreases-loop-self
decreases-loop-self l = l.at + 1 - vec_len l.self.readers
