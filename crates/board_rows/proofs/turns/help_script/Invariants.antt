use Rattle.steal_pool.specs.Seats.{IsReady}
use Rattle.board_rows.proofs.turns.help_script.Given as goal

abbrev pub invariant-loop : goal.invariant-loop
invariant-loop g l = record {
  ready : IsReady g.B.Board.home g.B.Board.know (g.B.Board.name l.board) l.place;
  goes : (goal.iterator-loop g).can_next l.iterator';
  ends : (goal.iterator-loop g).is_finite l.iterator';
}
