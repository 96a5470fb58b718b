use Rattle.std.proofs.Common.{◌≤◌, vec_len}
use Rattle.std.specs.Io.KnownBytes.{Consumes}
use Rattle.system_edge.proofs.disk.read_parts.Given as goal

abbrev pub invariant-loop : goal.invariant-loop
invariant-loop g l = Consumes (g.F.Read.remaining l.fn.file) (g.F.Read.remaining l.file) l.bytes.items × (vec_len l.bytes ≤ l.limit)
