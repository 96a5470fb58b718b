use Rattle.std.proofs.Common.{◌≡◌}
use Rattle.native_stream.specs.Words.{unmarked}
use Rattle.native_stream.proofs.StreamAt.clear.Given as goal

abbrev pub invariant-loop-k : goal.invariant-loop-k
invariant-loop-k g l = record {
  cells : g.M.Mem.cells l.mem ≡ unmarked l.self (g.M.Mem.cells l.initial.mem) l.k;
  readable : g.M.Mem.readable l.mem ≡ g.M.Mem.readable l.initial.mem;
  writable : g.M.Mem.writable l.mem ≡ g.M.Mem.writable l.initial.mem;
}
