use Rattle.std.proofs.Common.{rules, refl}
use Rattle.steal_pool.specs.Turns.{HasSaid}
use Rattle.steal_pool.proofs.Ending.{over_first, over_run}
use Rattle.steal_pool.proofs.turns.Turns.script_turn.Goals as goal

pub returns-then-at-len-clause-run : goal.returns-then-at-len-clause-run
returns-then-at-len-clause-run g c =
    over_run g.S.Sink.taken g.S.Sink.faults c.args.self.now.plan.now
    (λ first waited. HasSaid g.S.Sink.taken g.S.Sink.faults c.args.self.now.plan.now first waited c.args.sink.now c.args.out.now c.args.at.now)
    c.answer.result c.args.sink.now
    c.args.out.now c.args.at.now c.answer.ensures.over c.answer.ensures.fault c.answer.ensures.report (λ first waited old. old)

pub returns-clause-run : goal.returns-clause-run
returns-clause-run g c =
    over_run g.S.Sink.taken g.S.Sink.faults c.args.self.now.plan.now
    (λ first waited. HasSaid g.S.Sink.taken g.S.Sink.faults c.args.self.now.plan.now first waited c.args.sink.now c.args.out.now c.args.at.now)
    c.answer-2.result
    c.step-own.new.sink c.step-own.new.out c.step-own.new.at c.answer-2.ensures.over c.answer-2.ensures.fault c.answer-2.ensures.report
    c.step-own.ensures.said

pub returns-then-at-len-clause-first : goal.returns-then-at-len-clause-first
returns-then-at-len-clause-first g c =
    let p = c.requires.stands in
    over_first g.B.Board.home g.B.Board.know (g.B.Board.name c.args.self.now.board.now) c.args.self.now.plan.now c.answer.result
    c.args.at.now c.args.place.now c.answer.ensures.over p.held p.is p.at_home p.stands

pub returns-clause-first : goal.returns-clause-first
returns-clause-first g c =
    over_first g.B.Board.home g.B.Board.know (g.B.Board.name c.args.self.now.board.now) c.args.self.now.plan.now c.answer-2.result
    c.step-own.new.at _ c.answer-2.ensures.over c.step-own.result refl (search rules) c.step-own.ensures.stands
