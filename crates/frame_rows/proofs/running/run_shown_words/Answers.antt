use Rattle.frame_rows.proofs.Rooms.{words_are_new}
use Rattle.frame_rows.proofs.running.run_shown_words.Goals as goal

pub run_on-requires-clause-seats : goal.run_on-requires-clause-seats
run_on-requires-clause-seats g c lives within =
    words_are_new c.in_ok-board.board c.in_ok-board.seats.items c.in_ok-board.ensures.seats
