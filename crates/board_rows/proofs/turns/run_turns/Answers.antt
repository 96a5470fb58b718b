use Rattle.frame_rows.proofs.Rooms.{words_are_new}
use Rattle.board_rows.proofs.turns.run_turns.Goals as goal

pub run_turns_on-requires-clause-seats : goal.run_turns_on-requires-clause-seats
run_turns_on-requires-clause-seats g c lives within =
    words_are_new c.in_ok-board.board c.in_ok-board.seats.items c.in_ok-board.ensures.seats
