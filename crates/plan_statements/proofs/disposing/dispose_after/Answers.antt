use Rattle.std.proofs.Common.{◌<◌, ◌^◌, Some, ap, sym, subst, ◌∙◌}
use Rattle.std.specs.List.{All}
use Rattle.std.specs.Prelude.{vec_len}
use Rattle.frame_ast.specs.declared.script.Order.TheVariants.{Dispose as DisposeOf}
use Rattle.job_handle.specs.Sets.{jobs_of}
use Rattle.plan_state.specs.declared.state.World.{World}
use Rattle.plan_state.specs.Accesses.{AreThere, jobs_by}
use Rattle.plan_state.proofs.Answering.{nothing_taken, was_pushed}
use Rattle.plan_statements.proofs.HoldsGoOn.{after_ready, after_says, after_goes}
use Rattle.plan_statements.proofs.disposing.dispose_after.Goals as goal

pub set_to_jobs_of-requires-clause-names : goal.set_to_jobs_of-requires-clause-names
set_to_jobs_of-requires-clause-names c =
    let r = c.requires.ready in
    subst (All (λ n. n < vec_len c.args.world.now.values)) (sym c.deref.ensures.value)
    (after_ready (record r.1 { world = c.args.world.now }) r.0 c.args.name c.args.after.now c.args.handle r.2).after_in

pub set_to_jobs_of-requires-clause-there : goal.set_to_jobs_of-requires-clause-there
set_to_jobs_of-requires-clause-there c = let r = c.requires.ready in
    (after_ready (record r.1 { world = c.args.world.now }) r.0 c.args.name c.args.after.now c.args.handle r.2).there

pub disposable-requires-clause-name : goal.disposable-requires-clause-name
disposable-requires-clause-name c = let r = c.requires.ready in (after_ready
    (record r.1 { world = c.args.world.now }) r.0 c.args.name c.args.after.now c.args.handle r.2).name_in

pub disposable-requires-clause-there : goal.disposable-requires-clause-there
disposable-requires-clause-there c = let r = c.requires.ready in (after_ready
    (record r.1 { world = c.args.world.now }) r.0 c.args.name c.args.after.now c.args.handle r.2).there

pub disposable-requires-clause-deps : goal.disposable-requires-clause-deps
disposable-requires-clause-deps c =
    let r = c.requires.ready in
    (after_ready (record r.1 { world = c.args.world.now }) r.0 c.args.name c.args.after.now c.args.handle r.2).jobs (jobs_of c.set_to_jobs_of.new.all)
    (λ j. c.set_to_jobs_of.ensures j ∙ ap (λ ns. jobs_by c.args.world.now.handles.items c.args.world.now.values.items ns j) c.deref.ensures.value)

pub clear_handle-requires-clause-name : goal.clear_handle-requires-clause-name
clear_handle-requires-clause-name c = let r = c.requires.ready in (after_ready
    (record r.1 { world = c.args.world.now }) r.0 c.args.name c.args.after.now c.args.handle r.2).handle_in

pub clear_handle-requires-clause-there : goal.clear_handle-requires-clause-there
clear_handle-requires-clause-there c = let r = c.requires.ready in (after_ready
    (record r.1 { world = c.args.world.now }) r.0 c.args.name c.args.after.now c.args.handle r.2).there

pub clear_handle-requires-clause-few : goal.clear_handle-requires-clause-few
clear_handle-requires-clause-few c = let r = c.requires.ready in (after_ready
    (record r.1 { world = c.args.world.now }) r.0 c.args.name c.args.after.now c.args.handle r.2).few

pub hold_back-requires : goal.hold_back-requires
hold_back-requires c =
    let r = c.requires.ready in
    (after_ready (record r.1 { world = c.args.world.now }) r.0 c.args.name c.args.after.now c.args.handle r.2).holds (jobs_of c.set_to_jobs_of.new.all)
    (λ j. c.set_to_jobs_of.ensures j ∙ ap (λ ns. jobs_by c.args.world.now.handles.items c.args.world.now.values.items ns j) c.deref.ensures.value)
    c.in-Ok.number c.in-Ok.ensures

pub set_handle-requires-clause-name : goal.set_handle-requires-clause-name
set_handle-requires-clause-name c =
    let r = c.requires.ready in
    subst (λ (k : World). c.args.handle < vec_len k.values) (sym c.hold_back.ensures.rest)
    (after_ready (record r.1 { world = c.args.world.now }) r.0 c.args.name c.args.after.now c.args.handle r.2).handle_in

pub set_handle-requires-clause-there : goal.set_handle-requires-clause-there
set_handle-requires-clause-there c =
    let r = c.requires.ready in
    subst (λ (k : World). AreThere (vec_len k.containers) (vec_len k.handles) k.values.items) (sym c.hold_back.ensures.rest)
    (after_ready (record r.1 { world = c.args.world.now }) r.0 c.args.name c.args.after.now c.args.handle r.2).there

pub set_handle-requires-clause-few : goal.set_handle-requires-clause-few
set_handle-requires-clause-few c =
    let r = c.requires.ready in
    subst (λ (k : World). vec_len k.handles < 2 ^ 32) (sym c.hold_back.ensures.rest)
    (after_ready (record r.1 { world = c.args.world.now }) r.0 c.args.name c.args.after.now c.args.handle r.2).few

pub returns-in_ok-clear_handle-in-Err-clause-answers : goal.returns-in_ok-clear_handle-in-Err-clause-answers
returns-in_ok-clear_handle-in-Err-clause-answers c = λ line p draft t.
    after_says (record p { world = c.args.world.now }) line c.args.name c.args.after.now c.args.handle
    (record p { world = c.args.world.now; draft = draft }) c.clear_handle.new.self
    (jobs_of c.set_to_jobs_of.new.all)
    (λ j. c.set_to_jobs_of.ensures j ∙ ap (λ ns. jobs_by c.args.world.now.handles.items c.args.world.now.values.items ns j) c.deref.ensures.value)
    c.in-Err.refusal c.in-Err.ensures (was_pushed p c.args.world.now draft _ t)
    c.in_ok-clear_handle-in-Err.ensures

pub returns-in_ok-set_handle-in-Ok-clause-answers : goal.returns-in_ok-set_handle-in-Ok-clause-answers
returns-in_ok-set_handle-in-Ok-clause-answers c = λ line p draft t. nothing_taken p c.args.world.now c.set_handle.new.self
    (record { line = line; act = DisposeOf c.args.name c.args.after.now (Some c.args.handle) }) draft t
    (after_goes (record p { world = c.args.world.now }) line c.args.name c.args.after.now c.args.handle c.hold_back.new.world c.set_handle.new.self
    (jobs_of c.set_to_jobs_of.new.all)
    (λ j. c.set_to_jobs_of.ensures j ∙ ap (λ ns. jobs_by c.args.world.now.handles.items c.args.world.now.values.items ns j) c.deref.ensures.value)
    c.in-Ok.number c.in-Ok.ensures c.hold_back.ensures c.in_ok-set_handle-in-Ok.ensures)
