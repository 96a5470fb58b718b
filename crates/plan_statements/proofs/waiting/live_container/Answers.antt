use Rattle.std.proofs.Common.{subst}
use Rattle.plan_state.specs.Accesses.{IsGone}
use Rattle.plan_state.proofs.Accessing.{read_some}
use Rattle.plan_statements.proofs.WaitsGoOn.{live_gone, live_there}
use Rattle.plan_statements.proofs.waiting.live_container.Goals as goal

pub returns-then-is_disposed : goal.returns-then-is_disposed
returns-then-is_disposed c = live_gone c.args.world.now c.args.name (subst (IsGone c.args.world.now c.args.name) c.if-is_disposed.true
    c.is_disposed.ensures)

pub returns : goal.returns
returns c =
    live_there c.args.world.now c.args.name (subst (IsGone c.args.world.now c.args.name) c.if-is_disposed.false c.is_disposed.ensures)
    c.index-value.result.now
    (read_some c.args.world.now.values c.args.name c.index-value.result.now c.requires.name c.index-value.ensures) c.container_of.result
    c.container_of.ensures
