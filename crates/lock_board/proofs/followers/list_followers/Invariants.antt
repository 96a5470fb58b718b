use Rattle.std.proofs.Common.{◌≡◌, length}
use Rattle.lock_board.proofs.Following.{Filled}
use Rattle.lock_board.proofs.followers.list_followers.Given as goal

abbrev pub invariant-loop-d : goal.invariant-loop-d
invariant-loop-d l = record {
  size : length l.rows.items ≡ length l.plan.jobs.items;
  filled : Filled l.plan l.d l.rows.items;
}
