use Rattle.std.proofs.Common.{subst, sym}
use Rattle.frame_ast.specs.Laws.{AreUpTo}
use Rattle.job_handle.specs.Books.{count_of}
use Rattle.plan_state.proofs.Accessing.{read_some}
use Rattle.plan_state.proofs.Binding.{if_ok}
use Rattle.plan_statements.proofs.CompletesGoOn.{complete_ready, complete_goes}
use Rattle.plan_statements.proofs.completing.complete.Goals as goal

pub index-value-requires : goal.index-value-requires
index-value-requires c =
    let r = c.requires.ready in
    (complete_ready (record r.1 { world = c.args.world.now }) c.args.name r.0 r.2).name_in

pub jobs_of-jobs-requires : goal.jobs_of-jobs-requires
jobs_of-jobs-requires c =
    let r = c.requires.ready in
    let can = complete_ready (record r.1 { world = c.args.world.now }) c.args.name r.0 r.2 in
    record {
      there = can.there c.args.name c.index-value.result.now
          (read_some c.args.world.now.values c.args.name c.index-value.result.now can.name_in c.index-value.ensures);
    }

pub complete_jobs-requires-clause-known : goal.complete_jobs-requires-clause-known
complete_jobs-requires-clause-known c =
    let r = c.requires.ready in
    let can = complete_ready (record r.1 { world = c.args.world.now }) c.args.name r.0 r.2 in
    subst (AreUpTo (count_of c.args.world.now.jobs)) (sym c.jobs_of-jobs.ensures)
    (can.jobs c.index-value.result.now (read_some c.args.world.now.values c.args.name c.index-value.result.now can.name_in c.index-value.ensures))

pub complete_jobs-requires-clause-before : goal.complete_jobs-requires-clause-before
complete_jobs-requires-clause-before c =
    let r = c.requires.ready in
    (complete_ready (record r.1 { world = c.args.world.now }) c.args.name r.0 r.2).before

pub complete_jobs-requires-clause-users : goal.complete_jobs-requires-clause-users
complete_jobs-requires-clause-users c =
    let r = c.requires.ready in
    (complete_ready (record r.1 { world = c.args.world.now }) c.args.name r.0 r.2).users

pub returns-clause-answers : goal.returns-clause-answers
returns-clause-answers c =
    let r = c.requires.ready in
    let can = complete_ready (record r.1 { world = c.args.world.now }) c.args.name r.0 r.2 in
    if_ok c.complete_jobs.result (λ answer done line p draft took.
    complete_goes (record p { world = c.args.world.now }) c.args.name c.complete_jobs.new.world draft answer c.jobs_of-jobs.result
    c.index-value.result.now
    (read_some c.args.world.now.values c.args.name c.index-value.result.now can.name_in c.index-value.ensures) c.jobs_of-jobs.ensures done line took)
    c.complete_jobs.ensures.completion
