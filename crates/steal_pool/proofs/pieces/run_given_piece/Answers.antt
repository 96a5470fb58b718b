use Rattle.steal_pool.proofs.Leased.{begins, part_owed, part_dues, part_rights, part_on}
use Rattle.steal_pool.proofs.pieces.run_given_piece.Goals as goal

pub begin-requires-clause-first : goal.begin-requires-clause-first
begin-requires-clause-first g c =
    begins c.args.crew.now.plan.now (g.B.Board.plan c.args.crew.now.board.now) c.requires.crew.plan_is c.args.p.0 c.requires.of_job
    (g.B.Board.know c.args.seat)

pub end_piece-requires-clause-owed : goal.end_piece-requires-clause-owed
end_piece-requires-clause-owed g c =
    part_owed c.args.crew.now.plan.now (g.B.Board.plan c.args.crew.now.board.now) c.requires.crew.plan_is c.args.p.0 c.requires.of_job
    (g.B.Board.know c.args.seat) (g.B.Board.know c.begin.new.seat) (g.B.Board.know c.run_piece_leased-own.result)
    (g.B.Board.know c.end.new.seat) c.begin.result c.if-not-begin.false c.begin.ensures.know c.run_piece_leased-own.ensures.still c.end.ensures.know

pub end_piece-requires-clause-dues : goal.end_piece-requires-clause-dues
end_piece-requires-clause-dues g c =
    part_dues c.args.crew.now.plan.now (g.B.Board.plan c.args.crew.now.board.now) c.requires.crew.plan_is c.args.p.0 c.requires.of_job
    (g.B.Board.know c.args.seat) (g.B.Board.know c.begin.new.seat) (g.B.Board.know c.run_piece_leased-own.result)
    (g.B.Board.know c.end.new.seat) c.begin.result c.if-not-begin.false c.begin.ensures.know c.run_piece_leased-own.ensures.still c.end.ensures.know
    c.requires.idle.dues

pub end_piece-requires-clause-none : goal.end_piece-requires-clause-none
end_piece-requires-clause-none g c =
    part_rights c.args.crew.now.plan.now (g.B.Board.plan c.args.crew.now.board.now) c.requires.crew.plan_is c.args.p.0 c.requires.of_job
    (g.B.Board.know c.args.seat) (g.B.Board.know c.begin.new.seat) (g.B.Board.know c.run_piece_leased-own.result)
    (g.B.Board.know c.end.new.seat) c.begin.result c.if-not-begin.false c.begin.ensures.know c.run_piece_leased-own.ensures.still c.end.ensures.know
    c.requires.idle.rights

pub returns-clause-on : goal.returns-clause-on
returns-clause-on g c =
    part_on c.args.crew.now.plan.now (g.B.Board.plan c.args.crew.now.board.now) c.requires.crew.plan_is c.args.p.0 c.requires.of_job
    (g.B.Board.know c.args.seat) (g.B.Board.know c.begin.new.seat) (g.B.Board.know c.run_piece_leased-own.result)
    (g.B.Board.know c.end.new.seat) c.begin.result c.if-not-begin.false c.begin.ensures.know c.run_piece_leased-own.ensures.still c.end.ensures.know
    (g.B.Board.know c.end_piece.new.seat) c.end_piece.ensures.on
