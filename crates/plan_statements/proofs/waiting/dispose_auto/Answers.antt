use Rattle.std.proofs.Common.{◌<◌, ◌^◌, subst, sym}
use Rattle.std.specs.Prelude.{vec_len}
use Rattle.frame_ast.specs.declared.script.Order.TheVariants.{DisposeAuto as DisposeAutoOf}
use Rattle.job_handle.specs.Sets.{jobs_of}
use Rattle.plan_state.specs.declared.state.World.{World}
use Rattle.plan_state.specs.Accesses.{AreThere}
use Rattle.plan_state.proofs.Answering.{nothing_taken, was_pushed}
use Rattle.plan_statements.proofs.WaitsGoOn.{ending_ready, ending_says, ending_goes}
use Rattle.plan_statements.proofs.waiting.dispose_auto.Goals as goal

pub live_container-requires-clause-name : goal.live_container-requires-clause-name
live_container-requires-clause-name c = let r = c.requires.ready in
    (ending_ready (record r.1 { world = c.args.world.now }) r.0 c.args.name c.args.handle r.2).name_in

pub live_container-requires-clause-there : goal.live_container-requires-clause-there
live_container-requires-clause-there c = let r = c.requires.ready in
    (ending_ready (record r.1 { world = c.args.world.now }) r.0 c.args.name c.args.handle r.2).there

pub clear_handle-requires-clause-name : goal.clear_handle-requires-clause-name
clear_handle-requires-clause-name c = let r = c.requires.ready in (ending_ready
    (record r.1 { world = c.args.world.now }) r.0 c.args.name c.args.handle r.2).handle_in

pub clear_handle-requires-clause-there : goal.clear_handle-requires-clause-there
clear_handle-requires-clause-there c = let r = c.requires.ready in (ending_ready
    (record r.1 { world = c.args.world.now }) r.0 c.args.name c.args.handle r.2).there

pub clear_handle-requires-clause-few : goal.clear_handle-requires-clause-few
clear_handle-requires-clause-few c = let r = c.requires.ready in (ending_ready (record r.1 { world = c.args.world.now }) r.0 c.args.name c.args.handle r.2).few

pub waited_for-deps-requires : goal.waited_for-deps-requires
waited_for-deps-requires c = let r = c.requires.ready in (ending_ready
    (record r.1 { world = c.args.world.now }) r.0 c.args.name c.args.handle r.2).known c.in-Some.number c.in-Some.ensures

pub hold_back-requires : goal.hold_back-requires
hold_back-requires c = let r = c.requires.ready in (ending_ready (record r.1 { world = c.args.world.now }) r.0 c.args.name c.args.handle r.2).holds
    c.in-Some.number c.in-Some.ensures

pub set_handle-requires-clause-name : goal.set_handle-requires-clause-name
set_handle-requires-clause-name c =
    let r = c.requires.ready in
    subst (λ (k : World). c.args.handle < vec_len k.values) (sym c.hold_back.ensures.rest)
    (ending_ready (record r.1 { world = c.args.world.now }) r.0 c.args.name c.args.handle r.2).handle_in

pub set_handle-requires-clause-there : goal.set_handle-requires-clause-there
set_handle-requires-clause-there c =
    let r = c.requires.ready in
    subst (λ (k : World). AreThere (vec_len k.containers) (vec_len k.handles) k.values.items) (sym c.hold_back.ensures.rest)
    (ending_ready (record r.1 { world = c.args.world.now }) r.0 c.args.name c.args.handle r.2).there

pub set_handle-requires-clause-few : goal.set_handle-requires-clause-few
set_handle-requires-clause-few c =
    let r = c.requires.ready in
    subst (λ (k : World). vec_len k.handles < 2 ^ 32) (sym c.hold_back.ensures.rest)
    (ending_ready (record r.1 { world = c.args.world.now }) r.0 c.args.name c.args.handle r.2).few

pub returns-in_ok-clear_handle-in-None-clause-answers : goal.returns-in_ok-clear_handle-in-None-clause-answers
returns-in_ok-clear_handle-in-None-clause-answers c = λ line p draft t. ending_says (record p { world = c.args.world.now }) line c.args.name c.args.handle
    (record p { world = c.args.world.now; draft = draft }) c.clear_handle.new.self
    c.in-None.ensures (was_pushed p c.args.world.now draft _ t)
    c.in_ok-clear_handle-in-None.ensures

pub returns-in_ok-set_handle-in-Some-clause-answers : goal.returns-in_ok-set_handle-in-Some-clause-answers
returns-in_ok-set_handle-in-Some-clause-answers c = λ line p draft t. nothing_taken p c.args.world.now c.set_handle.new.self
    (record { line = line; act = DisposeAutoOf c.args.name c.args.handle }) draft t
    (ending_goes (record p { world = c.args.world.now }) line c.args.name c.args.handle c.hold_back.new.world c.set_handle.new.self
    (jobs_of c.waited_for-deps.result) c.in-Some.number c.in-Some.ensures c.waited_for-deps.ensures c.hold_back.ensures
    c.in_ok-set_handle-in-Some.ensures)
