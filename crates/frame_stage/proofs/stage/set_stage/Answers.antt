use Rattle.std.proofs.Common.{sym, subst, All}
use Rattle.steal_pool.specs.Seats.{IsFirst, IsReady}
use Rattle.word_board.specs.Boards.{home_of, know_of, name_of}
use Rattle.frame_stage.specs.declared.stage.Stage.{Stage}
use Rattle.frame_stage.proofs.Rooms.{as_many, made_ready}
use Rattle.frame_stage.proofs.stage.set_stage.Goals as goal

pub returns-in-Ok-clause-first : goal.returns-in-Ok-clause-first
returns-in-Ok-clause-first c =
    subst (λ (s : Stage). IsFirst home_of know_of (name_of s.board) 0 c.in_ok-room.room.first) (sym c.in-Ok.ensures.ok)
    (made_ready c.rooms_are_ready.ensures _ c.in_ok-board.board _ c.in_ok-board.made.items c.in_ok-room.room c.in_ok-board.ensures.count
    c.seats_for-seats.ensures.some c.in_ok-board.ensures.seats c.in_ok-room.ensures).first

pub returns-in-Ok-clause-others : goal.returns-in-Ok-clause-others
returns-in-Ok-clause-others c =
    subst (λ (s : Stage). All (IsReady home_of know_of (name_of s.board)) c.in_ok-room.room.others.items) (sym c.in-Ok.ensures.ok)
    (made_ready c.rooms_are_ready.ensures _ c.in_ok-board.board _ c.in_ok-board.made.items c.in_ok-room.room c.in_ok-board.ensures.count
    c.seats_for-seats.ensures.some c.in_ok-board.ensures.seats c.in_ok-room.ensures).others

pub returns-in-Ok-clause-places : goal.returns-in-Ok-clause-places
returns-in-Ok-clause-places c =
    as_many _ c.in_ok-board.made.items c.in_ok-room.room _ _ c.in_ok-room.ensures c.in_ok-board.ensures.count c.seats_for-seats.ensures.seats
