use Rattle.std.proofs.Common.{Some, None, subst}
use Rattle.plan_state.specs.Accesses.{IsGone}
use Rattle.plan_statements.proofs.TestsGoOn.{test_gone, test_busy}
use Rattle.plan_statements.proofs.testing.test_refusal.Goals as goal

pub returns-then-is_disposed : goal.returns-then-is_disposed
returns-then-is_disposed c = test_gone c.args.world.now c.args.name (subst (IsGone c.args.world.now c.args.name) c.if-is_disposed.true
    c.is_disposed.ensures)

pub returns-in-None : goal.returns-in-None
returns-in-None c = test_busy c.args.world.now c.args.name (subst (IsGone c.args.world.now c.args.name) c.if-is_disposed.false c.is_disposed.ensures) None
    c.in-None.ensures

pub returns-in-Some : goal.returns-in-Some
returns-in-Some c = test_busy c.args.world.now c.args.name (subst (IsGone c.args.world.now c.args.name) c.if-is_disposed.false c.is_disposed.ensures)
    (Some c.in-Some.job) c.in-Some.ensures
