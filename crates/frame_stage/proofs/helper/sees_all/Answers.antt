use Rattle.std.proofs.Common.{◌∙◌, ◌+◌}
use Rattle.word_board.specs.Boards.{know_of}
use Rattle.frame_stage.proofs.Seeing.{idle_on, seen_more}
use Rattle.frame_stage.proofs.helper.sees_all.Goals as goal

pub loop-j-preserved : goal.loop-j-preserved
loop-j-preserved c = record {
  home = c.finished.ensures.home ∙ c.loop-j.invariant.home;
  idle = idle_on (know_of c.loop-j.seat) (know_of c.finished.new.seat) (c.loop-j.j + 1) _ c.finished.ensures.know c.loop-j.invariant.idle;
  seen = seen_more (know_of c.loop-j.seat) (know_of c.finished.new.seat) c.loop-j.j c.if-not-finished.ensures.know c.loop-j.invariant.seen;
}
