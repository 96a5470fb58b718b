use Rattle.std.proofs.Common.{◌≡◌, ◌<◌, ◌≤◌, false, length}
use Rattle.frame_core.specs.Reports.{IsReportOf}
use Rattle.frame_core.specs.Output.{lines_of, refused_of, plan_traps}
use Rattle.plan_run.specs.Says.{SaysTo}
use Rattle.steal_pool.specs.Seats.{IsAt}
use Rattle.steal_pool.proofs.script.run_script_thread.Given as goal

abbrev pub invariant-loop-i : goal.invariant-loop-i
invariant-loop-i g l = record {
  home : g.B.Board.home l.own ≡ g.B.Board.home l.fn.seat;
  at : IsAt l.i (g.B.Board.know l.own);
  says : SaysTo g.S.Sink.taken g.S.Sink.faults l.fn.sink l.fn.out false l.sink l.out l.said.failed (lines_of l.crew.plan.now l.i);
  later : g.S.Sink.faults l.fn.sink ≤ g.S.Sink.faults l.sink;
  refused : l.said.refused ≡ refused_of l.crew.plan.now l.i;
  traps : 0 < l.i → l.i ≡ length l.crew.plan.now.segments.items → IsReportOf (plan_traps l.crew.plan.now) l.last;
}
