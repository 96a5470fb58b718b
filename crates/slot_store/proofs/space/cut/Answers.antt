use Rattle.std.proofs.Common.{add-one, arith}
use Rattle.slot_store.proofs.Cuts.{set_rest}
use Rattle.slot_store.proofs.space.cut.Goals as goal

pub returns-else-hole-len-clause-items : goal.returns-else-hole-len-clause-items
returns-else-hole-len-clause-items c = rw add-one (set_rest c.args.holes.now.items c.args.at c.args.len c.index-hole.result.now
    (omega arith) c.index-hole.ensures c.if-hole-len.false)
