use Rattle.std.proofs.Common.{◌≡◌, ◌-◌, ◌<◌}
use Rattle.native_map.specs.Table.{stops, probe, place_of}
use Rattle.native_map.proofs.MapAt.find.Given as goal

abbrev pub invariant-loop : goal.invariant-loop
invariant-loop g l = record {
  within : l.p < l.t;
  goes_on : probe (stops (g.M.Mem.cells l.initial.mem) l.fn.self.start l.fn.k) l.t (l.t - l.counter) l.p ≡ place_of l.fn.self
      (g.M.Mem.cells l.initial.mem) l.fn.k;
  cells : g.M.Mem.cells l.mem ≡ g.M.Mem.cells l.initial.mem;
  readable : g.M.Mem.readable l.mem ≡ g.M.Mem.readable l.initial.mem;
  writable : g.M.Mem.writable l.mem ≡ g.M.Mem.writable l.initial.mem;
}
