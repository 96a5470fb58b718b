use Rattle.frame_core.specs.Know.{reads, writes}
use Rattle.steal_pool.proofs.held.run_piece_leased.Given as goal

abbrev pub ghosts-run_piece_as : goal.ghosts-run_piece_as
ghosts-run_piece_as g a = record {
  name = g.B.Board.name a.board.now;
  piece = a.p.0;
  held = g.B.Board.know a.seat;
  read = reads (g.B.Board.plan a.board.now) a.p.0;
  write = writes (g.B.Board.plan a.board.now) a.p.0;
}
