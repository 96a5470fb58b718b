use Rattle.std.proofs.Common.{ℕ, suc, ◌+◌, ◌<◌, ◌^◌, take}
use Rattle.std.specs.Prelude.{slice_index}
use Rattle.lock_board.specs.Layouts.{times}
use Rattle.lock_board.proofs.followers.can_add.Given as goal

abbrev pub invariant-loop-i : goal.invariant-loop-i
invariant-loop-i l = (d : ℕ) → 0 < times (suc d) (take l.i l.ids) → slice_index l.dues d + 1 < 2 ^ 32
