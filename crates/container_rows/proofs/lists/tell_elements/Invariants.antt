use Rattle.std.proofs.Common.{◌≡◌}
use Rattle.container_rows.proofs.lists.tell_elements.Given as goal

abbrev pub invariant-loop-i : goal.invariant-loop-i
invariant-loop-i g l = record {
  readable : g.M.Mem.readable l.mem ≡ g.M.Mem.readable l.initial.mem;
  writable : g.M.Mem.writable l.mem ≡ g.M.Mem.writable l.initial.mem;
}
