-- What each part needs, and how the statement goes on, by the lemmas on schedules of an accepted script.
use Rattle.std.proofs.Common.{◌∙◌, ap, refl, sym, subst}
use Rattle.plan_state.specs.declared.state.Planner.{Planner}
use Rattle.job_handle.specs.Sets.{jobs_of}
use Rattle.plan_state.proofs.Accessing.{read_some, are_there}
use Rattle.job_handle.specs.Books.{count_of}
use Rattle.frame_ast.specs.Laws.{AreUpTo}
use Rattle.auto_deps.specs.Needs.{conflicting_with}
use Rattle.plan_schedules.specs.Causes.{as_refused}
use Rattle.plan_schedules.specs.Starting.{AreDeps}
use Rattle.plan_state.specs.Starts.{MayTakeJob}
use Rattle.plan_schedules.specs.Uses.{tags_of}
use Rattle.plan_schedules.proofs.Ready as ready
use Rattle.plan_schedules.proofs.Ready.{no_cause, if_err, with_ok}
use Rattle.plan_schedules.proofs.scheduling.schedule_plain.Goals as goal

pub index-requires : goal.index-requires
index-requires c =
    let r = c.requires.ready in
    ready.kernel_below r.0 r.1 c.args.job.now r.4

pub index-requires-2 : goal.index-requires-2
index-requires-2 c =
    let r = c.requires.ready in
    ready.kernel_below r.0 r.1 c.args.job.now r.4

pub set_to_jobs_of-requires-clause-names : goal.set_to_jobs_of-requires-clause-names
set_to_jobs_of-requires-clause-names c =
    let r = c.requires.ready in
    ready.after_below r.0 r.1 c.args.job.now r.4 c.deref.result.now c.deref.ensures.value

pub gather-requires-clause-each : goal.gather-requires-clause-each
gather-requires-clause-each c =
    let r = c.requires.ready in
    ready.length_is r.0 r.1 c.args.job.now r.4 c.index.result.now (read_some c.args.script.now.kernels c.args.job.now.kernel c.index.result.now
    (ready.kernel_below r.0 r.1 c.args.job.now r.4) c.index.ensures) c.deref-2.result.now c.deref-3.result.now c.deref-2.ensures.value c.deref-3.ensures.value

pub gather-requires-clause-names : goal.gather-requires-clause-names
gather-requires-clause-names c =
    let r = c.requires.ready in
    ready.names_below r.0 r.1 c.args.job.now r.4 c.deref-3.result.now c.deref-3.ensures.value

pub gather-requires-clause-jobs : goal.gather-requires-clause-jobs
gather-requires-clause-jobs c =
    let r = c.requires.ready in
    ready.named_up r.0 r.1 c.args.job.now r.4 (jobs_of c.set_to_jobs_of.new.all)
    (ready.named_is r.0 r.1 c.args.job.now r.4 (jobs_of c.set_to_jobs_of.new.all) c.deref.result.now c.deref.ensures.value c.set_to_jobs_of.ensures)

pub refuse_schedule-requires-clause-name : goal.refuse_schedule-requires-clause-name
refuse_schedule-requires-clause-name c =
    let r = c.requires.ready in
    ready.handle_below r.0 r.1 c.args.job.now r.4

pub refuse_schedule-requires-clause-few : goal.refuse_schedule-requires-clause-few
refuse_schedule-requires-clause-few c =
    let r = c.requires.ready in
    ready.handles_low r.0 r.1 c.args.job.now r.4

pub add_automatic-requires-clause-named : goal.add_automatic-requires-clause-named
add_automatic-requires-clause-named c =
    let r = c.requires.ready in
    ready.named_up r.0 r.1 c.args.job.now r.4 (jobs_of c.set_to_jobs_of.new.all)
    (ready.named_is r.0 r.1 c.args.job.now r.4 (jobs_of c.set_to_jobs_of.new.all) c.deref.result.now c.deref.ensures.value c.set_to_jobs_of.ensures)

pub plain_run-requires-clause-kernel : goal.plain_run-requires-clause-kernel
plain_run-requires-clause-kernel c =
    let r = c.requires.ready in
    ready.kernel_below r.0 r.1 c.args.job.now r.4

pub add_job-requires-clause-handle : goal.add_job-requires-clause-handle
add_job-requires-clause-handle c =
    let r = c.requires.ready in
    ready.handle_below r.0 r.1 c.args.job.now r.4

pub add_job-requires-clause-there : goal.add_job-requires-clause-there
add_job-requires-clause-there c =
    let r = c.requires.ready in
    are_there r.4.stands

pub add_job-requires-clause-handles : goal.add_job-requires-clause-handles
add_job-requires-clause-handles c =
    let r = c.requires.ready in
    ready.handles_low r.0 r.1 c.args.job.now r.4

pub plain_run-requires-clause-cut : goal.plain_run-requires-clause-cut
plain_run-requires-clause-cut c =
    let r = c.requires.ready in
    (ready.text r.0 r.1 c.args.job.now r.4).cut_fit

pub add_job-requires-clause-before : goal.add_job-requires-clause-before
add_job-requires-clause-before c =
    let r = c.requires.ready in
    ready.before_low r.0 r.1 c.args.job.now r.4

pub add_automatic-requires-clause-noted : goal.add_automatic-requires-clause-noted
add_automatic-requires-clause-noted c =
    let r = c.requires.ready in
    let p : Planner = record r.2 { world = c.args.world.now } in
    let uses = c.gather.new.uses.items in
    let named = jobs_of c.set_to_jobs_of.new.all in
    let named_are = ready.named_is r.0 r.1 c.args.job.now r.4 named c.deref.result.now c.deref.ensures.value c.set_to_jobs_of.ensures in
    let given = ready.are_given r.0 r.1 c.args.job.now r.4 c.index.result.now (read_some c.args.script.now.kernels c.args.job.now.kernel c.index.result.now
    (ready.kernel_below r.0 r.1 c.args.job.now r.4)
    c.index.ensures) named c.deref-2.result.now c.deref-3.result.now c.gather.new.uses.items c.deref-2.ensures.value c.deref-3.ensures.value
    c.in_ok-gather.ensures in
    let none = sym (ready.refused_by r.0 r.1 c.args.job.now r.4
    uses named named_are given c.index-2.result.now (read_some c.args.script.now.kernels c.args.job.now.kernel c.index-2.result.now
    (ready.kernel_below r.0 r.1 c.args.job.now r.4) c.index-2.ensures) c.deref-4.result.now c.deref-4.ensures.value c.refusal_of.result c.refusal_of.ensures)
    ∙ ap as_refused (no_cause c.refusal_of.result c.in_default.not-Some) in
    subst (λ us. AreUpTo (count_of p.world.jobs) (conflicting_with p.world.safety (tags_of us))) (sym c.deref-5.ensures.value)
    (ready.noted_up r.0 r.1 c.args.job.now r.4 uses named named_are given none)

pub add_job-requires-clause-uses : goal.add_job-requires-clause-uses
add_job-requires-clause-uses c =
    let r = c.requires.ready in
    let uses = c.gather.new.uses.items in
    let named = jobs_of c.set_to_jobs_of.new.all in
    let named_are = ready.named_is r.0 r.1 c.args.job.now r.4 named c.deref.result.now c.deref.ensures.value c.set_to_jobs_of.ensures in
    let given = ready.are_given r.0 r.1 c.args.job.now r.4 c.index.result.now (read_some c.args.script.now.kernels c.args.job.now.kernel c.index.result.now
    (ready.kernel_below r.0 r.1 c.args.job.now r.4)
    c.index.ensures) named c.deref-2.result.now c.deref-3.result.now c.gather.new.uses.items c.deref-2.ensures.value c.deref-3.ensures.value
    c.in_ok-gather.ensures in
    let none = sym (ready.refused_by r.0 r.1 c.args.job.now r.4
    uses named named_are given c.index-2.result.now (read_some c.args.script.now.kernels c.args.job.now.kernel c.index-2.result.now
    (ready.kernel_below r.0 r.1 c.args.job.now r.4) c.index-2.ensures) c.deref-4.result.now c.deref-4.ensures.value c.refusal_of.result c.refusal_of.ensures)
    ∙ ap as_refused (no_cause c.refusal_of.result c.in_default.not-Some) in
    ready.may_note r.0 r.1 c.args.job.now r.4 uses named named_are given none c.deref-8.result.now c.deref-8.ensures.value

pub plain_run-requires-clause-each : goal.plain_run-requires-clause-each
plain_run-requires-clause-each c =
    let r = c.requires.ready in
    (λ k h. ready.length_is r.0 r.1 c.args.job.now r.4 k h k.params.items c.deref-6.result.now refl c.deref-6.ensures.value)

pub plain_run-requires-clause-args : goal.plain_run-requires-clause-args
plain_run-requires-clause-args c =
    let r = c.requires.ready in
    ready.few_args r.0 r.1 c.args.job.now r.4 c.deref-6.result.now c.deref-6.ensures.value

pub plain_run-requires-clause-names : goal.plain_run-requires-clause-names
plain_run-requires-clause-names c =
    let r = c.requires.ready in
    ready.names_below r.0 r.1 c.args.job.now r.4 c.deref-6.result.now c.deref-6.ensures.value

pub add_job-requires-clause-deps : goal.add_job-requires-clause-deps
add_job-requires-clause-deps c =
    let r = c.requires.ready in
    let p : Planner = record r.2 { world = c.args.world.now } in
    let uses = c.gather.new.uses.items in
    let named = jobs_of c.set_to_jobs_of.new.all in
    let named_are = ready.named_is r.0 r.1 c.args.job.now r.4 named c.deref.result.now c.deref.ensures.value c.set_to_jobs_of.ensures in
    let given = ready.are_given r.0 r.1 c.args.job.now r.4 c.index.result.now (read_some c.args.script.now.kernels c.args.job.now.kernel c.index.result.now
    (ready.kernel_below r.0 r.1 c.args.job.now r.4)
    c.index.ensures) named c.deref-2.result.now c.deref-3.result.now c.gather.new.uses.items c.deref-2.ensures.value c.deref-3.ensures.value
    c.in_ok-gather.ensures in
    let none = sym (ready.refused_by r.0 r.1 c.args.job.now r.4
    uses named named_are given c.index-2.result.now (read_some c.args.script.now.kernels c.args.job.now.kernel c.index-2.result.now
    (ready.kernel_below r.0 r.1 c.args.job.now r.4) c.index-2.ensures) c.deref-4.result.now c.deref-4.ensures.value c.refusal_of.result c.refusal_of.ensures)
    ∙ ap as_refused (no_cause c.refusal_of.result c.in_default.not-Some) in
    ready.deps_up r.0 r.1 c.args.job.now r.4 uses named named_are
    given none (jobs_of c.add_automatic.new.deps) (subst (λ us. AreDeps c.args.job.now.auto named p.world.jobs p.world.safety
    (tags_of us)
    (jobs_of c.add_automatic.new.deps)) c.deref-5.ensures.value c.in_ok-add_automatic.ensures)

pub returns-in-Some-clause-answers : goal.returns-in-Some-clause-answers
returns-in-Some-clause-answers c line home table q draft took b =
    let uses = c.gather.new.uses.items in
    let named = jobs_of c.set_to_jobs_of.new.all in
    let named_are = ready.named_is line home c.args.job.now b named c.deref.result.now c.deref.ensures.value c.set_to_jobs_of.ensures in
    let given = ready.are_given line home c.args.job.now b c.index.result.now (read_some c.args.script.now.kernels c.args.job.now.kernel c.index.result.now
    (ready.kernel_below line home c.args.job.now b) c.index.ensures) named
    c.deref-2.result.now c.deref-3.result.now c.gather.new.uses.items c.deref-2.ensures.value c.deref-3.ensures.value c.in_ok-gather.ensures in
    ready.refused_on line home c.args.job.now b uses named named_are given
    c.refuse_schedule.new.world draft c.in_ok-refuse_schedule.field-0 c.in-Some.cause c.index-2.result.now
    (read_some c.args.script.now.kernels c.args.job.now.kernel c.index-2.result.now (ready.kernel_below line home c.args.job.now b) c.index-2.ensures)
    c.deref-4.result.now c.deref-4.ensures.value
    (sym c.in-Some.is ∙ c.refusal_of.ensures) c.in_ok-refuse_schedule.ensures.refuses c.in_ok-refuse_schedule.ensures.nobody took

pub returns-in-Some-clause-takes : goal.returns-in-Some-clause-takes
returns-in-Some-clause-takes c line home q table before =
    subst (MayTakeJob c.args.script.now q.draft) (sym c.in_ok-refuse_schedule.ensures.refuses) tt

pub returns-clause-answers : goal.returns-clause-answers
returns-clause-answers c = with_ok c.add_job.result (λ answer starts books line home table q draft took b.
    let p : Planner = record q { world = c.args.world.now } in
    let uses = c.gather.new.uses.items in
    let named = jobs_of c.set_to_jobs_of.new.all in
    let named_are = ready.named_is line home c.args.job.now b named c.deref.result.now c.deref.ensures.value c.set_to_jobs_of.ensures in
    let given = ready.are_given line home c.args.job.now b c.index.result.now (read_some c.args.script.now.kernels c.args.job.now.kernel c.index.result.now
    (ready.kernel_below line home c.args.job.now b) c.index.ensures) named
    c.deref-2.result.now c.deref-3.result.now c.gather.new.uses.items c.deref-2.ensures.value c.deref-3.ensures.value c.in_ok-gather.ensures in
    let none = sym (ready.refused_by line home c.args.job.now b uses named named_are given
    c.index-2.result.now (read_some c.args.script.now.kernels c.args.job.now.kernel c.index-2.result.now
    (ready.kernel_below line home c.args.job.now b) c.index-2.ensures) c.deref-4.result.now c.deref-4.ensures.value c.refusal_of.result c.refusal_of.ensures)
    ∙ ap as_refused (no_cause c.refusal_of.result c.in_default.not-Some) in
    ready.accepted_on line home c.args.job.now b uses named named_are given none
    c.add_job.new.world draft c.in_ok-run.run' answer (jobs_of c.add_automatic.new.deps) c.deref-6.result.now c.deref-7.result.now
    c.deref-8.result.now c.deref-6.ensures.value c.deref-7.ensures.value c.deref-8.ensures.value
    (subst (λ us. AreDeps c.args.job.now.auto named p.world.jobs p.world.safety (tags_of us)
    (jobs_of c.add_automatic.new.deps)) c.deref-5.ensures.value c.in_ok-add_automatic.ensures) c.in_ok-run.ensures books starts took)
    c.add_job.ensures.starts c.add_job.ensures.books

pub returns-clause-takes : goal.returns-clause-takes
returns-clause-takes c = with_ok c.add_job.result (λ answer starts books line home q table b.
    ready.may_be_taken line home c.args.job.now b
    c.in_ok-run.run' answer (jobs_of c.add_automatic.new.deps) c.deref-6.result.now c.deref-7.result.now books.room c.in_ok-run.ensures starts)
    c.add_job.ensures.starts c.add_job.ensures.books

pub returns-clause-fails : goal.returns-clause-fails
returns-clause-fails c = if_err c.add_job.result (λ fault full line home table q b.
    let uses = c.gather.new.uses.items in
    let named = jobs_of c.set_to_jobs_of.new.all in
    let named_are = ready.named_is line home c.args.job.now b named c.deref.result.now c.deref.ensures.value c.set_to_jobs_of.ensures in
    let given = ready.are_given line home c.args.job.now b c.index.result.now (read_some c.args.script.now.kernels c.args.job.now.kernel c.index.result.now
    (ready.kernel_below line home c.args.job.now b) c.index.ensures) named
    c.deref-2.result.now c.deref-3.result.now c.gather.new.uses.items c.deref-2.ensures.value c.deref-3.ensures.value c.in_ok-gather.ensures in
    let none = sym (ready.refused_by line home c.args.job.now b uses named named_are given
    c.index-2.result.now (read_some c.args.script.now.kernels c.args.job.now.kernel c.index-2.result.now
    (ready.kernel_below line home c.args.job.now b) c.index-2.ensures) c.deref-4.result.now c.deref-4.ensures.value c.refusal_of.result c.refusal_of.ensures)
    ∙ ap as_refused (no_cause c.refusal_of.result c.in_default.not-Some) in
    ready.fails_so line home c.args.job.now b uses named named_are given none fault full) c.add_job.ensures.full
