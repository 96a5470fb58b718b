use Rattle.std.proofs.Common.{refl, sym, ap, subst, ◌∙◌}
use Rattle.frame_ast.specs.declared.kernel.Kernel.{Kernel}
use Rattle.frame_ast.specs.Laws.{AreUpTo}
use Rattle.job_handle.specs.Books.{count_of}
use Rattle.job_handle.specs.Sets.{jobs_of}
use Rattle.safety_handle.specs.Entries.{state_of}
use Rattle.auto_deps.specs.Needs.{conflicting_with}
use Rattle.plan_state.specs.declared.state.Planner.{Planner}
use Rattle.frame_core.proofs.Small.{some_is}
use Rattle.plan_schedules.specs.Deferring.{deferred_refusal, with_length}
use Rattle.plan_schedules.specs.Noting.{MayNoteAll}
use Rattle.plan_schedules.specs.Starting.{AreDeps}
use Rattle.plan_state.specs.Starts.{MayTakeJob}
use Rattle.plan_schedules.specs.Uses.{tags_of}
use Rattle.plan_state.proofs.Accessing.{read_some, are_there}
use Rattle.plan_schedules.proofs.Deferred.Ready as ready
use Rattle.plan_schedules.proofs.Rooms as rooms
use Rattle.plan_schedules.proofs.Ready.{no_cause, if_err, with_ok}
use Rattle.plan_schedules.proofs.deferring.schedule_by_list.Goals as goal

pub index-requires : goal.index-requires
index-requires c =
    let r = c.requires.ready in
    ready.kernel_below r.0 r.1 c.args.job.now c.args.list c.args.batch r.4

pub index-requires-2 : goal.index-requires-2
index-requires-2 c =
    let r = c.requires.ready in
    ready.kernel_below r.0 r.1 c.args.job.now c.args.list c.args.batch r.4

pub guarded_run-requires-clause-kernel : goal.guarded_run-requires-clause-kernel
guarded_run-requires-clause-kernel c =
    let r = c.requires.ready in
    ready.kernel_below r.0 r.1 c.args.job.now c.args.list c.args.batch r.4

pub set_to_jobs_of-requires-clause-names : goal.set_to_jobs_of-requires-clause-names
set_to_jobs_of-requires-clause-names c =
    let r = c.requires.ready in
    ready.after_below r.0 r.1 c.args.job.now c.args.list c.args.batch r.4 c.deref.result.now c.deref.ensures.value

pub uses-requires-clause-each : goal.uses-requires-clause-each
uses-requires-clause-each c =
    let r = c.requires.ready in
    let below = ready.kernel_below r.0 r.1 c.args.job.now c.args.list c.args.batch r.4 in
    let at = read_some c.args.script.now.kernels c.args.job.now.kernel c.index.result.now below c.index.ensures in
    ready.each_arg r.0 r.1 c.args.job.now c.args.list c.args.batch r.4 c.deref-3.result.now c.deref-2.result.now c.index.result.now c.deref-3.ensures.value
    c.deref-2.ensures.value at

pub uses-requires-clause-names : goal.uses-requires-clause-names
uses-requires-clause-names c =
    let r = c.requires.ready in
    ready.args_below r.0 r.1 c.args.job.now c.args.list c.args.batch r.4 c.deref-3.result.now c.deref-3.ensures.value

pub uses-requires-clause-jobs : goal.uses-requires-clause-jobs
uses-requires-clause-jobs c =
    let r = c.requires.ready in
    ready.named_up r.0 r.1 c.args.job.now c.args.list c.args.batch r.4 c.set_to_jobs_of.new.all c.deref.result.now c.deref.ensures.value
    c.set_to_jobs_of.ensures

pub length_use-length-requires-clause-jobs : goal.length_use-length-requires-clause-jobs
length_use-length-requires-clause-jobs c =
    let r = c.requires.ready in
    ready.named_up r.0 r.1 c.args.job.now c.args.list c.args.batch r.4 c.set_to_jobs_of.new.all c.deref.result.now c.deref.ensures.value
    c.set_to_jobs_of.ensures

pub add_automatic-requires-clause-named : goal.add_automatic-requires-clause-named
add_automatic-requires-clause-named c =
    let r = c.requires.ready in
    ready.named_up r.0 r.1 c.args.job.now c.args.list c.args.batch r.4 c.set_to_jobs_of.new.all c.deref.result.now c.deref.ensures.value
    c.set_to_jobs_of.ensures

pub length_use-length-requires-clause-name : goal.length_use-length-requires-clause-name
length_use-length-requires-clause-name c =
    let r = c.requires.ready in
    ready.list_below r.0 r.1 c.args.job.now c.args.list c.args.batch r.4

pub guarded_run-requires-clause-list : goal.guarded_run-requires-clause-list
guarded_run-requires-clause-list c =
    let r = c.requires.ready in
    ready.list_below r.0 r.1 c.args.job.now c.args.list c.args.batch r.4

pub refuse_schedule-requires-clause-name : goal.refuse_schedule-requires-clause-name
refuse_schedule-requires-clause-name c =
    let r = c.requires.ready in
    ready.handle_below r.0 r.1 c.args.job.now c.args.list c.args.batch r.4

pub add_job-requires-clause-handle : goal.add_job-requires-clause-handle
add_job-requires-clause-handle c =
    let r = c.requires.ready in
    ready.handle_below r.0 r.1 c.args.job.now c.args.list c.args.batch r.4

pub refuse_schedule-requires-clause-few : goal.refuse_schedule-requires-clause-few
refuse_schedule-requires-clause-few c =
    let r = c.requires.ready in
    ready.handles_few r.0 r.1 c.args.job.now c.args.list c.args.batch r.4

pub add_job-requires-clause-there : goal.add_job-requires-clause-there
add_job-requires-clause-there c =
    let r = c.requires.ready in
    are_there r.4.stands

pub add_job-requires-clause-handles : goal.add_job-requires-clause-handles
add_job-requires-clause-handles c =
    let r = c.requires.ready in
    ready.handles_few r.0 r.1 c.args.job.now c.args.list c.args.batch r.4

pub add_automatic-requires-clause-noted : goal.add_automatic-requires-clause-noted
add_automatic-requires-clause-noted c =
    let r = c.requires.ready in
    let p : Planner = record r.2 { world = c.args.world.now } in
    let below = ready.kernel_below r.0 r.1 c.args.job.now c.args.list c.args.batch r.4 in
    let at = read_some c.args.script.now.kernels c.args.job.now.kernel c.index.result.now below c.index.ensures in
    let at2 = read_some c.args.script.now.kernels c.args.job.now.kernel c.index-2.result.now below c.index-2.ensures in
    let same = ap (λ (k : Kernel). k.parallel) (some_is (sym at2 ∙ at)) in
    let unrefused = sym (no_cause c.deferred_refusal.result c.in_default.not-Some) ∙ c.deferred_refusal.ensures
    ∙ ap (λ us. deferred_refusal us c.length_use-length.result c.index-2.result.now.parallel c.args.job.now.auto)
    c.deref-5.ensures.value in
    let all = c.deref-7.ensures.value ∙ c.in_ok-all.ensures ∙ ap (λ us. with_length us c.length_use-length.result) c.deref-4.ensures.value in
    subst (λ us. AreUpTo (count_of p.world.jobs) (conflicting_with p.world.safety (tags_of us))) (sym all)
    (ready.conflicts_up r.0 r.1 c.args.job.now c.args.list c.args.batch r.4 c.set_to_jobs_of.new.all c.deref.result.now c.deref.ensures.value
    c.set_to_jobs_of.ensures c.index.result.now at c.deref-2.result.now
    c.deref-2.ensures.value c.deref-3.result.now c.deref-3.ensures.value c.in_ok-uses.uses.items c.in_ok-uses.ensures c.length_use-length.result
    c.length_use-length.ensures c.index-2.result.now.parallel same unrefused)

pub guarded_run-requires-clause-each : goal.guarded_run-requires-clause-each
guarded_run-requires-clause-each c =
    let r = c.requires.ready in
    λ k at. ready.each_arg r.0 r.1 c.args.job.now c.args.list c.args.batch r.4 c.deref-8.result.now k.params.items k c.deref-8.ensures.value refl at

pub guarded_run-requires-clause-args : goal.guarded_run-requires-clause-args
guarded_run-requires-clause-args c =
    let r = c.requires.ready in
    ready.few_args r.0 r.1 c.args.job.now c.args.list c.args.batch r.4 c.deref-8.result.now c.deref-8.ensures.value

pub guarded_run-requires-clause-names : goal.guarded_run-requires-clause-names
guarded_run-requires-clause-names c =
    let r = c.requires.ready in
    ready.args_below r.0 r.1 c.args.job.now c.args.list c.args.batch r.4 c.deref-8.result.now c.deref-8.ensures.value

pub guarded_run-requires-clause-is_list : goal.guarded_run-requires-clause-is_list
guarded_run-requires-clause-is_list c =
    let r = c.requires.ready in
    let below = ready.kernel_below r.0 r.1 c.args.job.now c.args.list c.args.batch r.4 in
    let at = read_some c.args.script.now.kernels c.args.job.now.kernel c.index.result.now below c.index.ensures in
    let at2 = read_some c.args.script.now.kernels c.args.job.now.kernel c.index-2.result.now below c.index-2.ensures in
    let same = ap (λ (k : Kernel). k.parallel) (some_is (sym at2 ∙ at)) in
    let unrefused = sym (no_cause c.deferred_refusal.result c.in_default.not-Some) ∙ c.deferred_refusal.ensures
    ∙ ap (λ us. deferred_refusal us c.length_use-length.result c.index-2.result.now.parallel c.args.job.now.auto)
    c.deref-5.ensures.value in
    ready.list_named r.0 r.1 c.args.job.now c.args.list c.args.batch r.4 c.set_to_jobs_of.new.all c.deref.result.now c.deref.ensures.value
    c.set_to_jobs_of.ensures c.index.result.now at c.deref-2.result.now
    c.deref-2.ensures.value c.deref-3.result.now c.deref-3.ensures.value c.in_ok-uses.uses.items c.in_ok-uses.ensures c.length_use-length.result
    c.length_use-length.ensures c.index-2.result.now.parallel same unrefused

pub guarded_run-requires-clause-batch : goal.guarded_run-requires-clause-batch
guarded_run-requires-clause-batch c =
    let r = c.requires.ready in
    ready.batch_fit r.0 r.1 c.args.job.now c.args.list c.args.batch r.4

pub add_job-requires-clause-uses : goal.add_job-requires-clause-uses
add_job-requires-clause-uses c =
    let r = c.requires.ready in
    let p : Planner = record r.2 { world = c.args.world.now } in
    let below = ready.kernel_below r.0 r.1 c.args.job.now c.args.list c.args.batch r.4 in
    let at = read_some c.args.script.now.kernels c.args.job.now.kernel c.index.result.now below c.index.ensures in
    let at2 = read_some c.args.script.now.kernels c.args.job.now.kernel c.index-2.result.now below c.index-2.ensures in
    let same = ap (λ (k : Kernel). k.parallel) (some_is (sym at2 ∙ at)) in
    let unrefused = sym (no_cause c.deferred_refusal.result c.in_default.not-Some) ∙ c.deferred_refusal.ensures
    ∙ ap (λ us. deferred_refusal us c.length_use-length.result c.index-2.result.now.parallel c.args.job.now.auto)
    c.deref-5.ensures.value in
    subst (λ us. MayNoteAll us (state_of p.world.safety)) (sym (c.deref-10.ensures.value ∙ c.noted_uses-noted.ensures))
    (ready.may_note_all r.0 r.1 c.args.job.now c.args.list c.args.batch r.4 c.set_to_jobs_of.new.all c.deref.result.now c.deref.ensures.value
    c.set_to_jobs_of.ensures c.index.result.now at c.deref-2.result.now
    c.deref-2.ensures.value c.deref-3.result.now c.deref-3.ensures.value c.in_ok-uses.uses.items c.in_ok-uses.ensures c.length_use-length.result
    c.length_use-length.ensures c.index-2.result.now.parallel same unrefused)

pub add_job-requires-clause-deps : goal.add_job-requires-clause-deps
add_job-requires-clause-deps c =
    let r = c.requires.ready in
    let p : Planner = record r.2 { world = c.args.world.now } in
    let below = ready.kernel_below r.0 r.1 c.args.job.now c.args.list c.args.batch r.4 in
    let at = read_some c.args.script.now.kernels c.args.job.now.kernel c.index.result.now below c.index.ensures in
    let at2 = read_some c.args.script.now.kernels c.args.job.now.kernel c.index-2.result.now below c.index-2.ensures in
    let same = ap (λ (k : Kernel). k.parallel) (some_is (sym at2 ∙ at)) in
    let unrefused = sym (no_cause c.deferred_refusal.result c.in_default.not-Some) ∙ c.deferred_refusal.ensures
    ∙ ap (λ us. deferred_refusal us c.length_use-length.result c.index-2.result.now.parallel c.args.job.now.auto)
    c.deref-5.ensures.value in
    let all = c.deref-7.ensures.value ∙ c.in_ok-all.ensures ∙ ap (λ us. with_length us c.length_use-length.result) c.deref-4.ensures.value in
    let waits = subst (λ us. AreDeps c.args.job.now.auto (jobs_of c.set_to_jobs_of.new.all) p.world.jobs p.world.safety
    (tags_of us)
    (jobs_of c.add_automatic.new.deps)) all c.in_ok-add_automatic.ensures in
    ready.deps_up r.0 r.1 c.args.job.now c.args.list c.args.batch r.4 c.set_to_jobs_of.new.all c.deref.result.now c.deref.ensures.value
    c.set_to_jobs_of.ensures c.index.result.now at c.deref-2.result.now
    c.deref-2.ensures.value c.deref-3.result.now c.deref-3.ensures.value c.in_ok-uses.uses.items c.in_ok-uses.ensures c.length_use-length.result
    c.length_use-length.ensures c.index-2.result.now.parallel same unrefused (jobs_of c.add_automatic.new.deps) waits

pub add_job-requires-clause-before : goal.add_job-requires-clause-before
add_job-requires-clause-before c =
    let r = c.requires.ready in
    rooms.jobs_after r.4

pub noted_uses-noted-requires : goal.noted_uses-noted-requires
noted_uses-noted-requires c = c.in_ok-all.ensures ∙ ap (λ us. with_length us c.length_use-length.result) c.deref-4.ensures.value

pub returns-in-Some-clause-answers : goal.returns-in-Some-clause-answers
returns-in-Some-clause-answers c line home table q draft took b =
    let below = ready.kernel_below line home c.args.job.now c.args.list c.args.batch b in
    let at = read_some c.args.script.now.kernels c.args.job.now.kernel c.index.result.now below c.index.ensures in
    let at2 = read_some c.args.script.now.kernels c.args.job.now.kernel c.index-2.result.now below c.index-2.ensures in
    let same = ap (λ (k : Kernel). k.parallel) (some_is (sym at2 ∙ at)) in
    ready.refused_on line home c.args.job.now c.args.list c.args.batch b
    c.set_to_jobs_of.new.all c.deref.result.now c.deref.ensures.value c.set_to_jobs_of.ensures c.index.result.now at c.deref-2.result.now
    c.deref-2.ensures.value c.deref-3.result.now c.deref-3.ensures.value c.in_ok-uses.uses.items c.in_ok-uses.ensures c.length_use-length.result
    c.length_use-length.ensures c.index-2.result.now.parallel same c.in-Some.cause
    (sym c.in-Some.is ∙ c.deferred_refusal.ensures
    ∙ ap (λ us. deferred_refusal us c.length_use-length.result c.index-2.result.now.parallel c.args.job.now.auto) c.deref-5.ensures.value)
    c.refuse_schedule.new.world draft c.in_ok-refuse_schedule.field-0 c.in_ok-refuse_schedule.ensures.refuses
    c.in_ok-refuse_schedule.ensures.nobody took

pub returns-in-Some-clause-takes : goal.returns-in-Some-clause-takes
returns-in-Some-clause-takes c line home q table before =
    subst (MayTakeJob c.args.script.now q.draft) (sym c.in_ok-refuse_schedule.ensures.refuses) tt

pub returns-clause-answers : goal.returns-clause-answers
returns-clause-answers c = with_ok c.add_job.result (λ answer starts books line home table q draft took b.
    let p : Planner = record q { world = c.args.world.now } in
    let below = ready.kernel_below line home c.args.job.now c.args.list c.args.batch b in
    let at = read_some c.args.script.now.kernels c.args.job.now.kernel c.index.result.now below c.index.ensures in
    let at2 = read_some c.args.script.now.kernels c.args.job.now.kernel c.index-2.result.now below c.index-2.ensures in
    let same = ap (λ (k : Kernel). k.parallel) (some_is (sym at2 ∙ at)) in
    let unrefused = sym (no_cause c.deferred_refusal.result c.in_default.not-Some) ∙ c.deferred_refusal.ensures
    ∙ ap (λ us. deferred_refusal us c.length_use-length.result c.index-2.result.now.parallel c.args.job.now.auto) c.deref-5.ensures.value in
    let all = c.deref-7.ensures.value ∙ c.in_ok-all.ensures ∙ ap (λ us. with_length us c.length_use-length.result) c.deref-4.ensures.value in
    let waits = subst (λ us. AreDeps c.args.job.now.auto (jobs_of c.set_to_jobs_of.new.all) p.world.jobs p.world.safety
    (tags_of us)
    (jobs_of c.add_automatic.new.deps)) all c.in_ok-add_automatic.ensures in
    ready.accepted_on line home c.args.job.now c.args.list c.args.batch b
    c.set_to_jobs_of.new.all c.deref.result.now c.deref.ensures.value c.set_to_jobs_of.ensures c.index.result.now at c.deref-2.result.now
    c.deref-2.ensures.value c.deref-3.result.now c.deref-3.ensures.value c.in_ok-uses.uses.items c.in_ok-uses.ensures c.length_use-length.result
    c.length_use-length.ensures c.index-2.result.now.parallel same
    unrefused (jobs_of c.add_automatic.new.deps) waits c.add_job.new.world draft c.in_ok-run.run' answer c.deref-8.result.now
    c.deref-9.result.now c.deref-10.result.now c.deref-8.ensures.value c.deref-9.ensures.value (c.deref-10.ensures.value ∙
    c.noted_uses-noted.ensures) c.in_ok-run.ensures books starts took)
    c.add_job.ensures.starts c.add_job.ensures.books

pub returns-clause-takes : goal.returns-clause-takes
returns-clause-takes c = with_ok c.add_job.result (λ answer starts books line home q table b.
    ready.may_be_taken line home c.args.job.now c.args.list c.args.batch b
    c.in_ok-run.run' answer (jobs_of c.add_automatic.new.deps) c.deref-8.result.now c.deref-9.result.now books.room c.in_ok-run.ensures starts)
    c.add_job.ensures.starts c.add_job.ensures.books

pub returns-clause-fails : goal.returns-clause-fails
returns-clause-fails c = if_err c.add_job.result (λ fault full line home table q b.
    let below = ready.kernel_below line home c.args.job.now c.args.list c.args.batch b in
    let at = read_some c.args.script.now.kernels c.args.job.now.kernel c.index.result.now below c.index.ensures in
    let at2 = read_some c.args.script.now.kernels c.args.job.now.kernel c.index-2.result.now below c.index-2.ensures in
    let same = ap (λ (k : Kernel). k.parallel) (some_is (sym at2 ∙ at)) in
    let unrefused = sym (no_cause c.deferred_refusal.result c.in_default.not-Some) ∙ c.deferred_refusal.ensures
    ∙ ap (λ us. deferred_refusal us c.length_use-length.result c.index-2.result.now.parallel c.args.job.now.auto) c.deref-5.ensures.value in
    ready.fails line home c.args.job.now c.args.list c.args.batch b
    c.set_to_jobs_of.new.all c.deref.result.now c.deref.ensures.value c.set_to_jobs_of.ensures c.index.result.now at c.deref-2.result.now
    c.deref-2.ensures.value c.deref-3.result.now c.deref-3.ensures.value c.in_ok-uses.uses.items c.in_ok-uses.ensures c.length_use-length.result
    c.length_use-length.ensures c.index-2.result.now.parallel same unrefused fault
    full)
    c.add_job.ensures.full
