use Rattle.std.proofs.Common.{◌≡◌, ℕ, ◌<◌, ◌≤◌, false}
use Rattle.job_handle.specs.Sets.{jobs_of, outside}
use Rattle.job_handle.proofs.handle.Handle.latest_up_to.Given as goal

abbrev pub invariant-loop-left : goal.invariant-loop-left
invariant-loop-left l = record {
  within : l.left ≤ l.to;
  none : (k : ℕ) → l.left < k → k ≤ l.to → outside (jobs_of l.self) (jobs_of l.other) k ≡ false;
}

abbrev pub decreases-loop-left : goal.decreases-loop-left
decreases-loop-left l = l.left
