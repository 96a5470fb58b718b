use Rattle.std.proofs.Common.{sym}
use Rattle.std.proofs.lemmas.Option.{slice_get_within, get_or_from_slice_get}
use Rattle.kernel_code.proofs.Passing.{known_next, known_closed, meaning_pushed}
use Rattle.kernel_code.proofs.check.resolve.note_rare.Goals as goal

pub returns-clause-known : goal.returns-clause-known
returns-clause-known c none =
    let raw = c.args.raw.now in
    let i = c.args.number in
    let node = c.args.node.now in
    let found = c.in-Ok.ensures in
    known_next raw i node node _ _ _ _ _ _ (known_closed raw i _ _ _ _ c.requires.known c.close_blocks.ensures)
    (slice_get_within raw.nodes.items i node c.requires.here) (sym (get_or_from_slice_get raw.nodes.items i node node c.requires.here)) found.0
    c.in_ok-name.ensures.locals c.in_ok-note_block.ensures
    (meaning_pushed raw i node _ _ _ _ found.1 c.in_ok-name.ensures.named c.in_ok-push.ensures.items)
