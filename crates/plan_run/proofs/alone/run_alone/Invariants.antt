use Rattle.std.proofs.Common.{◌≡◌, ◌<◌, ◌≤◌, length}
use Rattle.frame_core.specs.declared.piece.Piece.TheVariants.{OfScript}
use Rattle.frame_core.specs.Reports.{IsReportOf}
use Rattle.frame_core.specs.Graphs.{before_piece}
use Rattle.frame_core.specs.Output.{lines_of, refused_of, plan_traps}
use Rattle.plan_run.specs.Says.{SaysTo}
use Rattle.plan_run.proofs.alone.run_alone.Given as goal

abbrev pub invariant-loop-i : goal.invariant-loop-i
invariant-loop-i g l = record {
  cells : g.M.Mem.cells l.mem ≡ before_piece l.plan (OfScript l.i);
  readable : g.M.Mem.readable l.mem ≡ g.M.Mem.readable l.fn.mem;
  writable : g.M.Mem.writable l.mem ≡ g.M.Mem.writable l.fn.mem;
  says : SaysTo g.S.Sink.taken g.S.Sink.faults l.fn.sink l.fn.out l.fn.failed l.sink l.out l.failed (lines_of l.plan l.i);
  later : g.S.Sink.faults l.fn.sink ≤ g.S.Sink.faults l.sink;
  refused : l.refused ≡ refused_of l.plan l.i;
  traps : 0 < l.i → l.i ≡ length l.plan.segments.items → IsReportOf (plan_traps l.plan) l.last;
}
