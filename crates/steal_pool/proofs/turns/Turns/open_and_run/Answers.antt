use Rattle.std.proofs.Common.{false}
use Rattle.plan_run.specs.Says.{said_to}
use Rattle.plan_run.proofs.Running.{lines_next, refused_few}
use Rattle.steal_pool.proofs.turns.Turns.open_and_run.Goals as goal

pub run_begun-own-requires-clause-few : goal.run_begun-own-requires-clause-few
run_begun-own-requires-clause-few g c =
    refused_few c.args.self.now.plan.now c.args.at.now.segment c.args.at.now.refused c.requires.crew.well c.requires.stands.refused

pub returns-clause-said : goal.returns-clause-said
returns-clause-said g c first waited old =
    lines_next c.args.self.now.plan.now (said_to g.S.Sink.taken g.S.Sink.faults first waited false)
    (said_to g.S.Sink.taken g.S.Sink.faults c.args.sink.now c.args.out.now c.args.at.now.failed)
    (said_to g.S.Sink.taken g.S.Sink.faults c.run_begun-own.new.sink c.run_begun-own.new.out c.run_begun-own.new.said.failed) c.args.at.now.segment
    old c.run_begun-own.ensures.text
