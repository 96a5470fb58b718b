use Rattle.std.proofs.Common.{◌≡◌}
use Rattle.piece_run.specs.Visits.{IsVisitOf}
use Rattle.steal_pool.specs.Seats.{IsIdle, IsOn}
use Rattle.steal_pool.proofs.pieces.run_given_pieces.Given as goal

abbrev pub invariant-loop-k : goal.invariant-loop-k
invariant-loop-k g l = record {
  home : g.B.Board.home l.own ≡ g.B.Board.home l.fn.seat;
  idle : IsIdle (g.B.Board.know l.own);
  on : IsOn (g.B.Board.know l.fn.seat) (g.B.Board.know l.own);
  place : l.visit.place ≡ l.fn.claimed.job;
  visit : IsVisitOf l.crew.plan.now l.visit l.tools.scratch;
}
