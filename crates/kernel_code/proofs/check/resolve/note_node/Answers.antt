use Rattle.std.proofs.Common.{sym}
use Rattle.kernel_code.proofs.PlainNames.{plain_next, small_size}
use Rattle.kernel_code.proofs.check.resolve.note_node.Goals as goal

pub returns-clause-known : goal.returns-clause-known
returns-clause-known c none =
    plain_next c.args.raw.now c.args.number c.args.node.now c.in-Some.name _ _ _ _ c.requires.known c.requires.here (sym c.in-Some.ensures)
    (small_size c.args.raw.now c.args.number c.args.is_over c.requires.over c.if-not-is_over.true) c.in_ok-push.ensures.items
