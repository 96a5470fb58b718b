use Rattle.std.proofs.Common.{◌≡◌, ◌≤◌, length}
use Rattle.plan_run.specs.Says.{said_to}
use Rattle.plan_run.proofs.InOps.{InOps}
use Rattle.plan_run.proofs.lines.run_ops.Given as goal

abbrev pub invariant-loop-op : goal.invariant-loop-op
invariant-loop-op g l = record {
  readable : g.M.Mem.readable l.mem ≡ g.M.Mem.readable l.fn.mem;
  writable : g.M.Mem.writable l.mem ≡ g.M.Mem.writable l.fn.mem;
  later : g.S.Sink.faults l.fn.sink ≤ g.S.Sink.faults l.sink;
  ops : InOps l.plan (g.M.Mem.readable l.mem) (g.M.Mem.writable l.mem) (said_to g.S.Sink.taken g.S.Sink.faults l.fn.sink l.fn.out l.fn.failed)
      (said_to g.S.Sink.taken g.S.Sink.faults l.sink l.out l.failed) l.ops l.rest (g.M.Mem.cells l.fn.mem) (g.M.Mem.cells l.mem) l.fn.refused l.refused;
}

abbrev pub decreases-loop-op : goal.decreases-loop-op
decreases-loop-op g l = length l.rest
