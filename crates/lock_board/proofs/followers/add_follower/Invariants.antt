use Rattle.std.proofs.Common.{◌≡◌, ℕ, suc, ◌+◌, cond, take}
use Rattle.std.specs.Prelude.{nat_eq}
use Rattle.lock_board.specs.Layouts.{row, times}
use Rattle.lock_board.proofs.followers.add_follower.Given as goal

abbrev pub invariant-loop-i : goal.invariant-loop-i
invariant-loop-i l = (j e : ℕ) → times e (row l.rows j) ≡ times e (row l.fn.rows j) + cond (nat_eq l.job.0 e) (times (suc j) (take l.i l.deps)) 0
