use Rattle.std.proofs.Common.{ap, ◌∙◌}
use Rattle.word_board.specs.Views.{know}
use Rattle.word_board.proofs.Seated.{seat_of, released_is}
use Rattle.word_board.proofs.calls.WordBoardBoard.release.Goals as goal

pub release-requires-clause-seat : goal.release-requires-clause-seat
release-requires-clause-seat c = seat_of c.args.self.now c.args.seat.now c.requires.home

pub returns-clause-know : goal.returns-clause-know
returns-clause-know c = ap know c.release.ensures.view ∙ released_is c.args.self.now c.args.seat.now c.requires.home c.args.j.0 c.release.result 0 0
    c.requires.job.0 c.requires.due
