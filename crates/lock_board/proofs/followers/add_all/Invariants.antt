use Rattle.std.proofs.Common.{◌≡◌, ℕ, suc, ◌+◌, take}
use Rattle.std.specs.Prelude.{slice_index}
use Rattle.lock_board.specs.Layouts.{times}
use Rattle.lock_board.proofs.followers.add_all.Given as goal

abbrev pub invariant-loop-i : goal.invariant-loop-i
invariant-loop-i l = (d : ℕ) → slice_index l.dues d ≡ slice_index l.fn.dues d + times (suc d) (take l.i l.ids)
