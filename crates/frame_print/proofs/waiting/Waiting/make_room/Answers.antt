use Rattle.frame_print.proofs.Gathering.{joins_none, flushed, room_after}
use Rattle.frame_print.proofs.waiting.Waiting.make_room.Goals as goal

pub returns-then-bytes-room-clause-text : goal.returns-then-bytes-room-clause-text
returns-then-bytes-room-clause-text g c = joins_none _ _

pub returns-clause-room : goal.returns-clause-room
returns-clause-room g c = room_after c.flush.result _ _ _ c.requires c.flush.ensures.none

pub returns-clause-text : goal.returns-clause-text
returns-clause-text g c = flushed _ _ _ _ c.flush.result c.flush.ensures.text c.flush.ensures.none
