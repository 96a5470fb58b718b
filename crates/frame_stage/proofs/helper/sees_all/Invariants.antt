use Rattle.std.proofs.Common.{◌≡◌, ℕ, suc, ◌<◌, true}
use Rattle.steal_pool.specs.Seats.{IsIdle}
use Rattle.word_board.specs.Boards.{home_of, know_of, name_of}
use Rattle.frame_stage.proofs.helper.sees_all.Given as goal

abbrev pub invariant-loop-j : goal.invariant-loop-j
invariant-loop-j l = record {
  home : home_of l.seat ≡ name_of l.fn.stage.board;
  idle : IsIdle (know_of l.seat);
  seen : (i : ℕ) → i < l.j → (know_of l.seat).seen (suc i) ≡ true;
}
