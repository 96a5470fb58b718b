use Rattle.std.proofs.Common.{subst}
use Rattle.plan_statements.specs.Waiting.{IsBroken}
use Rattle.plan_statements.proofs.WaitsGoOn.{stale_completes, completes_live, completes_gone}
use Rattle.plan_statements.proofs.waiting.completable.Goals as goal

pub returns-then-is_stale : goal.returns-then-is_stale
returns-then-is_stale c = stale_completes c.args.world.now c.args.name (subst (IsBroken c.args.world.now c.args.name) c.if-is_stale.true c.is_stale.ensures)

pub returns-in-None : goal.returns-in-None
returns-in-None c = completes_gone c.args.world.now c.args.name c.in-None.ensures

pub returns-in-Some : goal.returns-in-Some
returns-in-Some c =
    completes_live c.args.world.now c.args.name (subst (IsBroken c.args.world.now c.args.name) c.if-is_stale.false c.is_stale.ensures) c.in-Some.number
    c.in-Some.ensures
