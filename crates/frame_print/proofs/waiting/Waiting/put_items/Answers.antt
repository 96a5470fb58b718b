use Rattle.std.proofs.Common.{◌≤◌, arith}
use Rattle.native_stream.specs.Layout.{index_end, end_of}
use Rattle.native_stream.proofs.Places.{index_within, may_use_at}
use Rattle.frame_print.proofs.Words.{items_within}
use Rattle.frame_print.proofs.waiting.Waiting.put_items.Goals as goal

pub items-requires-clause-readable : goal.items-requires-clause-readable
items-requires-clause-readable g c = may_use_at c.args.at.now _ c.requires.readable _

pub put_cells-requires : goal.put_cells-requires
put_cells-requires g c =
    let inside : index_end c.args.at.now c.args.k ≤ end_of c.args.at.now = index_within c.args.at.now c.args.k c.requires.index in
    let room : c.in-Ok.items ≤ c.args.at.now.room = items_within c.args.at.now
    (g.M.Mem.cells c.args.mem.now) _ _ c.items.result c.items.ensures.words c.in-Ok.is in
    let fits = c.requires.fits in record {
      fits = omega (arith, inside, room, fits);
      readable = λ w lo hi. rw c.items.ensures.readable (c.requires.readable w (omega arith) (omega arith));
    }
