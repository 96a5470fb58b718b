-- Who may use every word of the stream may make each call.
use Rattle.native_stream.proofs.Places.{may_use_at}
use Rattle.container_rows.proofs.streams.perform.Goals as goal

pub begin-requires-clause-readable : goal.begin-requires-clause-readable
begin-requires-clause-readable g c = may_use_at c.args.stream (g.M.Mem.readable c.args.mem.now) c.requires.readable _

pub begin-requires-clause-writable : goal.begin-requires-clause-writable
begin-requires-clause-writable g c = may_use_at c.args.stream (g.M.Mem.writable c.args.mem.now) c.requires.writable _

pub items-requires-clause-readable : goal.items-requires-clause-readable
items-requires-clause-readable g c = may_use_at c.args.stream (g.M.Mem.readable c.args.mem.now) c.requires.readable _

pub at-requires-clause-readable : goal.at-requires-clause-readable
at-requires-clause-readable g c = may_use_at c.args.stream (g.M.Mem.readable c.args.mem.now) c.requires.readable _
