use Rattle.std.proofs.Common.{◌+◌, ◌≤◌, arith}
use Rattle.word_board.specs.Boards.{plan_of}
use Rattle.board_rows.proofs.Seats.{parts_may}
use Rattle.board_rows.proofs.boards.fn.begin_any.g.Goals as goal

pub begins_any-requires : goal.begins_any-requires
begins_any-requires c = record {
  home = c.requires.0;
  free = c.requires.1;
  pieces = omega (arith, c.requires.2);
  may = parts_may (plan_of c.captures.board.now) c.captures.parts _ c.requires.1 c.requires.2;
}
