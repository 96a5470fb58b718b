use Rattle.std.proofs.Common.{◌<◌, ap, subst, sym, ◌∙◌}
use Rattle.std.specs.List.{All}
use Rattle.std.specs.Prelude.{vec_len}
use Rattle.frame_ast.specs.declared.script.Order.TheVariants.{Combine as CombineOf}
use Rattle.plan_state.specs.Accesses.{jobs_by}
use Rattle.plan_state.proofs.Answering.{nothing_taken}
use Rattle.plan_statements.proofs.NewNames.{combine_ready, combined}
use Rattle.plan_statements.proofs.names.combine.Goals as goal

pub set_to_jobs_of-requires-clause-names : goal.set_to_jobs_of-requires-clause-names
set_to_jobs_of-requires-clause-names c =
    let r = c.requires.ready in
    subst (All (λ n. n < vec_len c.args.world.now.values)) (sym c.deref.ensures.value)
    (combine_ready r.0 c.args.name c.args.of.now (record r.1 { world = c.args.world.now }) r.2).of_in

pub set_to_jobs_of-requires-clause-there : goal.set_to_jobs_of-requires-clause-there
set_to_jobs_of-requires-clause-there c = let r = c.requires.ready in
    (combine_ready r.0 c.args.name c.args.of.now (record r.1 { world = c.args.world.now }) r.2).there

pub set_handle-requires-clause-name : goal.set_handle-requires-clause-name
set_handle-requires-clause-name c = let r = c.requires.ready in (combine_ready r.0 c.args.name c.args.of.now
    (record r.1 { world = c.args.world.now }) r.2).name_in

pub set_handle-requires-clause-there : goal.set_handle-requires-clause-there
set_handle-requires-clause-there c = let r = c.requires.ready in (combine_ready r.0 c.args.name c.args.of.now
    (record r.1 { world = c.args.world.now }) r.2).there

pub set_handle-requires-clause-few : goal.set_handle-requires-clause-few
set_handle-requires-clause-few c = let r = c.requires.ready in (combine_ready r.0 c.args.name c.args.of.now (record r.1 { world = c.args.world.now }) r.2).few

pub returns-clause-answers : goal.returns-clause-answers
returns-clause-answers c = λ line p draft t.
    nothing_taken p c.args.world.now c.set_handle.new.self (record { line = line; act = CombineOf c.args.name c.args.of.now }) draft t
    (combined line c.args.name c.args.of.now (record p { world = c.args.world.now }) c.set_handle.new.self c.set_to_jobs_of.new.all
    (λ j. c.set_to_jobs_of.ensures j ∙ ap (λ ns. jobs_by c.args.world.now.handles.items c.args.world.now.values.items ns j) c.deref.ensures.value)
    c.in_ok-set_handle.ensures)
