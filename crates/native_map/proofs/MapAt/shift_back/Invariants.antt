use Rattle.std.proofs.Common.{◌≡◌, ◌-◌, ◌<◌}
use Rattle.native_map.specs.Table.{next_place}
use Rattle.native_map.specs.Words.{shifted}
use Rattle.native_map.proofs.MapAt.shift_back.Given as goal

abbrev pub invariant-loop : goal.invariant-loop
invariant-loop g l = record {
  gap : l.gap < l.t;
  place : l.j < l.t;
  goes_on : shifted l.self (l.t - l.counter) (g.M.Mem.cells l.mem) l.gap l.j ≡ shifted l.self l.t (g.M.Mem.cells l.initial.mem) l.p (next_place l.t l.p);
  readable : g.M.Mem.readable l.mem ≡ g.M.Mem.readable l.initial.mem;
  writable : g.M.Mem.writable l.mem ≡ g.M.Mem.writable l.initial.mem;
}
