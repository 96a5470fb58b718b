use Rattle.std.proofs.Common.{sym, ◌∙◌, subst, ap, length}
use Rattle.std.proofs.lemmas.List.{length-replicate}
use Rattle.steal_pool.specs.Rooms.{IsRoomOf}
use Rattle.frame_rows.proofs.Rooms.{made_ready, closed_into}
use Rattle.board_rows.proofs.turns.run_turns_on.Goals as goal

pub run_room-end-requires-clause-room : goal.run_room-end-requires-clause-room
run_room-end-requires-clause-room g c lives within =
    subst (λ p. IsRoomOf g.B.Board.home g.B.Board.know p (g.B.Board.name c.args.board) c.in_ok-room.room) c.plan-2.ensures
    (made_ready g.B.Board.home g.B.Board.know c.rooms_are_ready.ensures _ _ c.args.seats.items _ c.requires.count.0 c.requires.seats c.in_ok-room.ensures)

pub returns : goal.returns
returns g c = record {
  left = closed_into _ _ _ _ (sym c.requires.plan) (ap length c.in_ok-left.ensures ∙ length-replicate _ _ ∙ ap (λ p. p.words) c.plan.ensures)
      c.close.ensures.room c.close.ensures.cells;
}
