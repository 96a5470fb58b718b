use Rattle.std.proofs.Common.{◌<◌, sym, subst}
use Rattle.frame_core.specs.Know.{piece_count}
use Rattle.word_board.proofs.Seated.{seat_of, leased_is}
use Rattle.word_board.proofs.calls.WordBoardBoard.end.Goals as goal

pub end-requires-clause-seat : goal.end-requires-clause-seat
end-requires-clause-seat c = seat_of c.args.self.now c.args.seat.now c.requires.home

pub end-requires-clause-piece : goal.end-requires-clause-piece
end-requires-clause-piece c = let w = c.requires.cells in let l = leased_is c.args.self.now c.args.seat.now c.requires.home w.0 w.1 in
    subst (λ n. n < piece_count c.args.self.now.table.shared.key) (sym l.0) l.1
