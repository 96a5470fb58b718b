use Rattle.std.proofs.Common.{ℕ, ◌+◌, ap}
use Rattle.steal_pool.proofs.Leased.{may_open_it, opens_it}
use Rattle.steal_pool.proofs.Standings.{is_at}
use Rattle.steal_pool.proofs.turns.Turns.open_next.Goals as goal

pub open_piece-requires-clause-may : goal.open_piece-requires-clause-may
open_piece-requires-clause-may g c =
    may_open_it c.args.self.now.plan.now c.args.at.now.segment (g.B.Board.plan c.args.self.now.board.now) c.requires.crew.plan_is
    (c.job_pieces.result + c.args.at.now.segment) (ap (λ (n : ℕ). n + c.args.at.now.segment) c.job_pieces.ensures) c.requires.index
    (g.B.Board.know c.args.seat) (is_at c.args.self.now.plan.now c.args.at.now (g.B.Board.know c.args.seat) c.requires.stands c.if-at.false)
    c.requires.seen

pub returns-clause-opened : goal.returns-clause-opened
returns-clause-opened g c =
    opens_it c.args.self.now.plan.now c.args.at.now.segment (g.B.Board.plan c.args.self.now.board.now) c.requires.crew.plan_is
    (c.job_pieces.result + c.args.at.now.segment) (ap (λ (n : ℕ). n + c.args.at.now.segment) c.job_pieces.ensures) (g.B.Board.know c.args.seat)
    (g.B.Board.know c.open_piece.new.seat)
    (is_at c.args.self.now.plan.now c.args.at.now (g.B.Board.know c.args.seat) c.requires.stands c.if-at.false) c.open_piece.ensures.know
