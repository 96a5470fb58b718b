use Rattle.job_handle.specs.Sets.{jobs_of}
use Rattle.plan_state.proofs.Answering.{was_pushed}
use Rattle.plan_state.proofs.Binding.{if_ok}
use Rattle.plan_statements.proofs.WaitsGoOn.{completing_ready, completing_says, completing_goes}
use Rattle.plan_statements.proofs.waiting.complete_auto.Goals as goal

pub completable-requires-clause-name : goal.completable-requires-clause-name
completable-requires-clause-name c = let r = c.requires.ready in
    (completing_ready (record r.1 { world = c.args.world.now }) r.0 c.args.name r.2).name_in

pub completable-requires-clause-there : goal.completable-requires-clause-there
completable-requires-clause-there c = let r = c.requires.ready in
    (completing_ready (record r.1 { world = c.args.world.now }) r.0 c.args.name r.2).there

pub waited_for-jobs-requires : goal.waited_for-jobs-requires
waited_for-jobs-requires c = let r = c.requires.ready in
    (completing_ready (record r.1 { world = c.args.world.now }) r.0 c.args.name r.2).known c.in-Ok.number c.in-Ok.ensures

pub complete_jobs-requires-clause-known : goal.complete_jobs-requires-clause-known
complete_jobs-requires-clause-known c = let r = c.requires.ready in
    (completing_ready (record r.1 { world = c.args.world.now }) r.0 c.args.name r.2).jobs c.in-Ok.number c.in-Ok.ensures
    (jobs_of c.waited_for-jobs.result) c.waited_for-jobs.ensures

pub complete_jobs-requires-clause-before : goal.complete_jobs-requires-clause-before
complete_jobs-requires-clause-before c = let r = c.requires.ready in
    (completing_ready (record r.1 { world = c.args.world.now }) r.0 c.args.name r.2).before

pub complete_jobs-requires-clause-users : goal.complete_jobs-requires-clause-users
complete_jobs-requires-clause-users c = let r = c.requires.ready in
    (completing_ready (record r.1 { world = c.args.world.now }) r.0 c.args.name r.2).users

pub returns-in-Err-clause-answers : goal.returns-in-Err-clause-answers
returns-in-Err-clause-answers c = λ line p draft took. completing_says (record p { world = c.args.world.now }) line c.args.name
    (record p { world = c.args.world.now; draft = draft }) c.in-Err.refusal c.in-Err.ensures (was_pushed p c.args.world.now draft _ took)

pub returns-in-Ok-clause-answers : goal.returns-in-Ok-clause-answers
returns-in-Ok-clause-answers c = if_ok c.complete_jobs.result (λ answer done line p draft took.
    completing_goes (record p { world = c.args.world.now }) line c.args.name c.complete_jobs.new.world draft answer
    (jobs_of c.waited_for-jobs.result)
    c.in-Ok.number c.in-Ok.ensures c.waited_for-jobs.ensures done took) c.complete_jobs.ensures.completion
