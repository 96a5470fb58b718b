use Rattle.std.proofs.Common.{ap, sym, ◌∙◌}
use Rattle.frame_core.specs.declared.piece.Piece.{Piece}
use Rattle.frame_core.specs.declared.piece.Piece.TheVariants.{OfJob}
use Rattle.frame_core.specs.Effects.{piece_cells}
use Rattle.steal_pool.proofs.PartRights.{here, may_read, may_write}
use Rattle.steal_pool.proofs.held.run_piece_as.Goals as goal

pub run_visited-requires-clause-readable : goal.run_visited-requires-clause-readable
run_visited-requires-clause-readable g c =
    may_read c.args.plan.now (g.B.Board.plan c.args.board.now) c.requires.plan g.K.Holding.piece c.args.visit.now.place c.args.i c.requires.piece
    (c.requires.is ∙ c.requires.number) g.K.Holding.read c.requires.read

pub run_visited-requires-clause-writable : goal.run_visited-requires-clause-writable
run_visited-requires-clause-writable g c =
    may_write c.args.plan.now (g.B.Board.plan c.args.board.now) c.requires.plan g.K.Holding.piece c.args.visit.now.place c.args.i c.requires.piece
    (c.requires.is ∙ c.requires.number) g.K.Holding.write c.requires.write

pub returns-clause-cells : goal.returns-clause-cells
returns-clause-cells g c =
    let plan = c.args.plan.now in
    let named = here plan (g.B.Board.plan c.args.board.now) c.requires.plan c.args.p.0 c.args.visit.now.place c.args.i c.requires.piece c.requires.number in
    c.into_seat.ensures.cells
    ∙ (c.run_visited.ensures.cells
    ∙ (ap (piece_cells plan (OfJob c.args.visit.now.place c.args.i)) c.over-lease.ensures.cells
    ∙ ap (λ (x : Piece). piece_cells plan x (g.B.Board.know c.args.seat).cells) (sym named)))
