use Rattle.std.proofs.Common.{◌≡◌}
use Rattle.container_rows.proofs.arrays.compare.Given as goal

abbrev pub invariant-loop-line : goal.invariant-loop-line
invariant-loop-line g l = record {
  readable : g.M.Mem.readable l.mem ≡ g.M.Mem.readable l.initial.mem;
  writable : g.M.Mem.writable l.mem ≡ g.M.Mem.writable l.initial.mem;
}
