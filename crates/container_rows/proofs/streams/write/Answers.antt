-- Who may use every word of the stream may write to an index.
use Rattle.std.proofs.Common.{arith}
use Rattle.native_stream.proofs.Places.{may_use}
use Rattle.container_rows.proofs.streams.write.Goals as goal

pub write-requires-clause-readable : goal.write-requires-clause-readable
write-requires-clause-readable g c = may_use c.args.stream (g.M.Mem.readable c.args.mem.now) c.requires.readable c.args.i (omega arith)

pub write-requires-clause-writable : goal.write-requires-clause-writable
write-requires-clause-writable g c = may_use c.args.stream (g.M.Mem.writable c.args.mem.now) c.requires.writable c.args.i (omega arith)
