use Rattle.std.proofs.Common.{◌≡◌, ◌*◌, ◌≤◌}
use Rattle.job_base.specs.declared.limits.TheConstants.{MOST_INDEXES}
use Rattle.frame_core.specs.Reports.{IsReportOf}
use Rattle.frame_core.specs.Output.{first_traps}
use Rattle.plan_run.proofs.tally.count_traps.Given as goal

abbrev pub invariant-loop-p : goal.invariant-loop-p
invariant-loop-p g l = record {
  few : l.report.traps ≤ MOST_INDEXES * l.p;
  report : IsReportOf (first_traps l.plan l.p) l.report;
  cells : g.M.Mem.cells l.mem ≡ g.M.Mem.cells l.fn.mem;
  readable : g.M.Mem.readable l.mem ≡ g.M.Mem.readable l.fn.mem;
  writable : g.M.Mem.writable l.mem ≡ g.M.Mem.writable l.fn.mem;
}
