use Rattle.std.proofs.Common.{◌≡◌}
use Rattle.word_board.specs.Boards.{home_of, know_of}
use Rattle.board_rows.proofs.boards.begins_any.Given as goal

-- nothing was begun
abbrev pub invariant-loop-p : goal.invariant-loop-p
invariant-loop-p l = (home_of l.seat ≡ home_of l.fn.seat) × (know_of l.seat ≡ know_of l.fn.seat)
