use Rattle.std.proofs.Common.{◌∙◌, subst, ap}
use Rattle.steal_pool.specs.Rooms.{IsRoomOf}
use Rattle.word_board.specs.Boards.{home_of, know_of, name_of}
use Rattle.frame_top.proofs.Rooms.{made_ready, closed_into}
use Rattle.frame_top.proofs.on_board.run_shown.Goals as goal

pub run_lines-end-requires-clause-room : goal.run_lines-end-requires-clause-room
run_lines-end-requires-clause-room g c lives within =
    subst (λ p. IsRoomOf home_of know_of p (name_of c.in_ok-board.board) c.in_ok-room.room) c.plan-4.ensures
    (made_ready c.rooms_are_ready.ensures _ c.in_ok-board.board _ c.in_ok-board.made.items _ c.in_ok-board.ensures.count c.busy_workers-seats.ensures.some
    c.in_ok-board.ensures.seats c.in_ok-room.ensures)

pub returns-clause-left : goal.returns-clause-left
returns-clause-left g c keeps =
    let shown = c.plan-2.ensures in
    closed_into _ _ _ _ (c.in_ok-board.ensures.plan ∙ c.plan-3.ensures) (c.in_ok-left.ensures keeps
    ∙ ap (λ p. p.words) c.plan.ensures) c.close.ensures.room c.close.ensures.cells
