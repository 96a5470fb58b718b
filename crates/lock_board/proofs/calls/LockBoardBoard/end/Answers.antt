use Rattle.std.proofs.Common.{ap, ◌∙◌}
use Rattle.job_base.specs.Cells.{cells_of}
use Rattle.lock_board.specs.Rooms.{place_of}
use Rattle.lock_board.proofs.Knowing.{held_cells}
use Rattle.lock_board.proofs.calls.LockBoardBoard.end.Goals as goal

pub end-leased-requires-clause-cells : goal.end-leased-requires-clause-cells
end-leased-requires-clause-cells g c w t =
    let h = c.args.seat.now.held in
    ap (λ l. cells_of l (place_of g.K.PlanName.plan c.in-Some.p.0 w)) c.deref.ensures.value
    ∙ held_cells g.K.PlanName.plan h.lease c.in-Some.p c.requires.cells.0 h.room.items c.in-Some.is c.requires.cells.1 c.requires.cells.2 w t
