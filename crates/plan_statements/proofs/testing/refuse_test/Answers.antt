use Rattle.std.proofs.Common.{sym, refl, ◌∙◌}
use Rattle.frame_ast.specs.Orders.{setting}
use Rattle.frame_core.proofs.Small.{none_some}
use Rattle.plan_state.specs.Steps.{state_at}
use Rattle.plan_state.proofs.Answering.{was_pushed}
use Rattle.plan_statements.proofs.TestsGoOn.{test_ready, test_refused}
use Rattle.plan_statements.proofs.testing.refuse_test.Goals as goal

pub test_refusal-requires-clause-name : goal.test_refusal-requires-clause-name
test_refusal-requires-clause-name c = let r = c.requires.ready in
    (test_ready (record r.1 { world = c.args.world.now }) r.0 c.args.name c.args.sign c.args.value c.args.count r.2).0

pub test_refusal-requires-clause-there : goal.test_refusal-requires-clause-there
test_refusal-requires-clause-there c = let r = c.requires.ready in
    (test_ready (record r.1 { world = c.args.world.now }) r.0 c.args.name c.args.sign c.args.value c.args.count r.2).1

pub returns-in-None : goal.returns-in-None
returns-in-None c = record {
  decided = (refl, λ line p script table b. sym (c.in-None.ensures (setting script table) (state_at script table b.n) b.found b.stands.knows));
}

pub returns-in-Some : goal.returns-in-Some
returns-in-Some c = record {
  decided = (
    λ line p draft took. test_refused (record p { world = c.args.world.now }) line c.args.name c.args.sign c.args.value c.args.count
        (record p { world = c.args.world.now; draft = draft }) c.in-Some.refusal c.in-Some.ensures (was_pushed p c.args.world.now draft _ took),
    λ line p script table b none.
        none_some (sym none ∙ sym (c.in-Some.ensures (setting script table) (state_at script table b.n) b.found b.stands.knows)),
  );
}
