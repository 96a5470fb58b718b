use Rattle.std.proofs.Common.{◌≡◌}
use Rattle.native_map.specs.Words.{emptied}
use Rattle.native_map.proofs.MapAt.clear.Given as goal

abbrev pub invariant-loop-p : goal.invariant-loop-p
invariant-loop-p g l = record {
  cells : g.M.Mem.cells l.mem ≡ emptied l.self (g.M.Mem.cells l.initial.mem) l.p;
  readable : g.M.Mem.readable l.mem ≡ g.M.Mem.readable l.initial.mem;
  writable : g.M.Mem.writable l.mem ≡ g.M.Mem.writable l.initial.mem;
}
