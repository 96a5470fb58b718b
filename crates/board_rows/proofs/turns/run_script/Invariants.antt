use Rattle.steal_pool.specs.Turns.{HasSaid, IsStanding}
use Rattle.board_rows.proofs.turns.run_script.Given as goal

abbrev pub invariant-loop : goal.invariant-loop
invariant-loop g l = record {
  stands : IsStanding g.B.Board.home g.B.Board.know (g.B.Board.name l.board) l.plan l.at l.place;
  said : HasSaid g.S.Sink.taken g.S.Sink.faults l.plan l.fn.sink l.fn.out l.sink l.out l.at;
  goes : (goal.iterator-loop g).can_next l.iterator';
  ends : (goal.iterator-loop g).is_finite l.iterator';
}
