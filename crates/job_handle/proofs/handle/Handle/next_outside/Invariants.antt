use Rattle.std.proofs.Common.{◌≡◌, ℕ, ◌-◌, ◌<◌, ◌≤◌, false}
use Rattle.job_handle.specs.Sets.{jobs_of, outside}
use Rattle.job_handle.proofs.handle.Handle.next_outside.Given as goal

abbrev pub invariant-loop-at : goal.invariant-loop-at
invariant-loop-at l = record {
  begun : l.from ≤ l.at;
  none : (k : ℕ) → l.from < k → k ≤ l.at → outside (jobs_of l.self) (jobs_of l.other) k ≡ false;
}

abbrev pub decreases-loop-at : goal.decreases-loop-at
decreases-loop-at l = l.to - l.at
