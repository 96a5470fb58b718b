use Rattle.std.proofs.Common.{◌≡◌}
use Rattle.plan_run.specs.ScriptOrder.{before_part}
use Rattle.plan_run.proofs.alone.run_parts.Given as goal

abbrev pub invariant-loop-i : goal.invariant-loop-i
invariant-loop-i g l = record {
  cells : g.M.Mem.cells l.mem ≡ before_part l.plan l.fn.k l.i;
  readable : g.M.Mem.readable l.mem ≡ g.M.Mem.readable l.fn.mem;
  writable : g.M.Mem.writable l.mem ≡ g.M.Mem.writable l.fn.mem;
}
