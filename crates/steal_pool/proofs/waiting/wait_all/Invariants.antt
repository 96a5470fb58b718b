use Rattle.std.proofs.Common.{◌≡◌, ◌≤◌, [], All, length}
use Rattle.plan_run.specs.Says.{SaysTo}
use Rattle.frame_core.specs.Names.{IsJobOf}
use Rattle.steal_pool.specs.Seats.{IsIdle, IsOn}
use Rattle.steal_pool.proofs.Seating.{Waits}
use Rattle.steal_pool.proofs.waiting.wait_all.Given as goal

abbrev pub invariant-loop-job : goal.invariant-loop-job
invariant-loop-job g l = record {
  home : g.B.Board.home l.own ≡ g.B.Board.home l.fn.seat;
  idle : IsIdle (g.B.Board.know l.own);
  on : IsOn (g.B.Board.know l.fn.seat) (g.B.Board.know l.own);
  jobs : All (IsJobOf l.crew.plan.now) l.rest;
  waits : Waits l.waits l.rest (g.B.Board.know l.own).seen;
  says : SaysTo g.S.Sink.taken g.S.Sink.faults l.fn.sink l.fn.out l.fn.failed l.sink l.out l.failed [];
  later : g.S.Sink.faults l.fn.sink ≤ g.S.Sink.faults l.sink;
}

abbrev pub decreases-loop-job : goal.decreases-loop-job
decreases-loop-job g l = length l.rest
