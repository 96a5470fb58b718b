use Rattle.std.proofs.Common.{None, subst, Ok, Err}
use Rattle.frame_ast.specs.declared.script.Order.TheVariants.{Dispose as DisposeOf}
use Rattle.plan_state.proofs.Accessing.{none_up_to}
use Rattle.plan_state.proofs.Answering.{nothing_taken, was_pushed}
use Rattle.plan_statements.specs.Endings.{IsDisposable}
use Rattle.plan_statements.proofs.DisposalsGoOn.{plain_ready, plain_ends, plain_says, plain_goes}
use Rattle.plan_statements.proofs.disposing.dispose.Goals as goal

pub disposable-requires-clause-name : goal.disposable-requires-clause-name
disposable-requires-clause-name c = let r = c.requires.ready in (plain_ready (record r.1.1 { world = c.args.world.now }) r.1.0 c.args.name r.0 r.1.2).0

pub disposable-requires-clause-there : goal.disposable-requires-clause-there
disposable-requires-clause-there c = let r = c.requires.ready in (plain_ready (record r.1.1 { world = c.args.world.now }) r.1.0 c.args.name r.0 r.1.2).1

pub disposable-requires-clause-deps : goal.disposable-requires-clause-deps
disposable-requires-clause-deps c = none_up_to _ _ c.nobody.ensures

pub give_back-requires : goal.give_back-requires
give_back-requires c =
    let r = c.requires.ready in
    plain_ends (record r.1.1 { world = c.args.world.now }) r.1.0 c.args.name r.0 r.1.2 c.in-Ok.number
    (subst (λ after. IsDisposable c.args.world.now c.args.name after (Ok c.in-Ok.number)) c.nobody.ensures c.in-Ok.ensures)

pub returns-in-Err : goal.returns-in-Err
returns-in-Err c = record {
  answers = λ after line p draft t. plain_says (record p { world = c.args.world.now }) line c.args.name
      (record p { world = c.args.world.now; draft = draft }) c.in-Err.refusal
      (subst (λ jobs. IsDisposable c.args.world.now c.args.name jobs (Err c.in-Err.refusal)) c.nobody.ensures c.in-Err.ensures)
      (was_pushed p c.args.world.now draft _ t) after;
}

pub returns-in-Ok : goal.returns-in-Ok
returns-in-Ok c = record {
  answers = λ after line p draft t. nothing_taken p c.args.world.now c.give_back.new.world
      (record { line = line; act = DisposeOf c.args.name after None }) draft t
      (plain_goes (record p { world = c.args.world.now }) line c.args.name c.give_back.new.world c.in-Ok.number
      (subst (λ jobs. IsDisposable c.args.world.now c.args.name jobs (Ok c.in-Ok.number)) c.nobody.ensures c.in-Ok.ensures) c.give_back.ensures after);
}
