use Rattle.frame_core.specs.Effects.{touches}
use Rattle.frame_core.specs.Pieces.{piece_numbered}
use Rattle.frame_core.proofs.Extents.Touching.{writes_read}
use Rattle.word_board.proofs.Seated.{seat_of, leased_is}
use Rattle.word_board.proofs.calls.WordBoardBoard.store.Goals as goal

pub store-requires-clause-seat : goal.store-requires-clause-seat
store-requires-clause-seat c = seat_of c.args.self.now c.args.seat.now c.requires.home

pub store-requires-clause-lease : goal.store-requires-clause-lease
store-requires-clause-lease c = let w = c.requires.word in (w.0, w.1, (leased_is c.args.self.now c.args.seat.now c.requires.home w.0 w.1).1, w.2)

pub store-requires-clause-word : goal.store-requires-clause-word
store-requires-clause-word c = let w = c.requires.word in c.args.self.now.within w.0 c.args.w.0
    (writes_read (touches c.args.self.now.table.shared.key (piece_numbered c.args.self.now.table.shared.key w.0)) c.args.w.0 w.2)
