use Rattle.frame_core.specs.declared.piece.Piece.TheVariants.{OfScript, OfJob}
use Rattle.frame_core.proofs.Extents.Footprints.{named}
use Rattle.frame_core.proofs.footprint.touches.Goals as goal

pub list_segment-requires-clause-segment : goal.list_segment-requires-clause-segment
list_segment-requires-clause-segment c = named c.args.plan.now c.requires.well c.args.p.0 (OfScript c.in-OfScript.k) c.requires.piece c.in-OfScript.ensures

pub list_part-requires-clause-piece : goal.list_part-requires-clause-piece
list_part-requires-clause-piece c = named c.args.plan.now c.requires.well c.args.p.0 (OfJob c.in-OfJob.j c.in-OfJob.i) c.requires.piece c.in-OfJob.ensures
