use Rattle.std.proofs.Common.{◌*◌, ◌<◌, ◌≤◌, sym, subst}
use Rattle.std.specs.Prelude.{Vec, vec_len}
use Rattle.std.specs.declared.alloc.Global.{Global}
use Rattle.job_base.specs.declared.limits.TheConstants.{MOST_JOBS, MOST_PIECES}
use Rattle.frame_core.specs.declared.plan.JobPlan.{JobPlan}
use Rattle.plan_state.proofs.Binding.{on_ok}
use Rattle.plan_state.proofs.CopiesMade.{jobs_stay, pieces_stay}
use Rattle.plan_state.proofs.state.Draft.start.Goals as goal

pub start_job-requires-clause-few : goal.start_job-requires-clause-few
start_job-requires-clause-few c =
    subst (λ (v : Vec JobPlan Global). vec_len v < MOST_JOBS)
    (sym (jobs_stay c.args.start.guarded c.args.script.now c.args.self.now c.copy_for.new.self c.args.start.kernel c.in_ok-kernel.kernel
    c.in_ok-kernel.ensures)) c.requires.may.jobs

pub start_job-requires-clause-pieces : goal.start_job-requires-clause-pieces
start_job-requires-clause-pieces c =
    subst (λ n. n ≤ MOST_PIECES * MOST_JOBS)
    (sym (pieces_stay c.args.start.guarded c.args.script.now c.args.self.now c.copy_for.new.self c.args.start.kernel c.in_ok-kernel.kernel
    c.in_ok-kernel.ensures)) c.requires.may.pieces

pub returns : goal.returns
returns c = on_ok c.start_job.result (λ started. record {
  place = c.in_ok-kernel.kernel;
  copied = c.copy_for.new.self;
  copy = c.in_ok-kernel.ensures;
  started = started;
}) c.start_job.ensures
