use Rattle.std.proofs.Common.{◌+◌, refl}
use Rattle.plan_run.proofs.Tallies.{told_piece, told_there}
use Rattle.plan_run.proofs.tally.read_piece.Goals as goal

pub read_notes-requires-clause-told : goal.read_notes-requires-clause-told
read_notes-requires-clause-told g c = told_there c.args.plan.now c.args.p c.requires.piece c.requires.well (c.args.plan.now.cells + c.args.p)
    (g.M.Mem.cells c.args.mem.now) refl c.requires.told

pub returns-clause-notes : goal.returns-clause-notes
returns-clause-notes g c = told_piece c.args.plan.now c.args.p c.requires.piece c.requires.well (c.args.plan.now.cells + c.args.p)
    (g.M.Mem.cells c.args.mem.now) c.read_notes.result refl c.requires.told c.read_notes.ensures.note
