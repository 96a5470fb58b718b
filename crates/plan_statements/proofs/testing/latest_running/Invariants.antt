use Rattle.std.proofs.Common.{◌≡◌, ◌≤◌, not}
use Rattle.frame_ast.specs.Jobs.{Book, greatest}
use Rattle.job_handle.specs.Books.{StandsFor, count_of}
use Rattle.plan_statements.proofs.testing.latest_running.Given as goal

abbrev pub invariant-loop-left : goal.invariant-loop-left
invariant-loop-left l = record {
  within : l.left ≤ count_of l.world.jobs;
  same : (b : Book) → StandsFor l.world.jobs b → greatest (λ j. not (b.completed j)) b.count ≡ greatest (λ j. not (b.completed j)) l.left;
}

abbrev pub decreases-loop-left : goal.decreases-loop-left
decreases-loop-left l = l.left
