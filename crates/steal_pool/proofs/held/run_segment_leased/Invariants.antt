use Rattle.std.proofs.Common.{◌+◌}
use Rattle.frame_core.specs.Names.{job_pieces}
use Rattle.frame_core.specs.Know.{reads, writes}
use Rattle.steal_pool.proofs.held.run_segment_leased.Given as goal

abbrev pub ghosts-run_segment_as : goal.ghosts-run_segment_as
ghosts-run_segment_as g a = record {
  name = g.B.Board.name a.board.now;
  piece = job_pieces a.plan.now + a.i;
  held = g.B.Board.know a.seat;
  read = reads (g.B.Board.plan a.board.now) (job_pieces a.plan.now + a.i);
  write = writes (g.B.Board.plan a.board.now) (job_pieces a.plan.now + a.i);
}
