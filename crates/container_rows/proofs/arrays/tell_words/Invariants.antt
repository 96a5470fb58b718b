use Rattle.std.proofs.Common.{◌≡◌}
use Rattle.container_rows.proofs.arrays.tell_words.Given as goal

abbrev pub invariant-loop-w : goal.invariant-loop-w
invariant-loop-w g l = record {
  readable : g.M.Mem.readable l.mem ≡ g.M.Mem.readable l.initial.mem;
  writable : g.M.Mem.writable l.mem ≡ g.M.Mem.writable l.initial.mem;
}
