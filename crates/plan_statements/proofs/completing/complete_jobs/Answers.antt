use Rattle.std.proofs.Common.{refl}
use Rattle.job_handle.specs.Sets.{jobs_of}
use Rattle.plan_statements.proofs.CompletedJobs.{ended_by, newly_set}
use Rattle.plan_statements.proofs.completing.complete_jobs.Goals as goal

pub returns-then-is_none-clause-completion : goal.returns-then-is_none-clause-completion
returns-then-is_none-clause-completion c =
    (ended_by c.args.world.now (jobs_of c.args.jobs.now) c.next_open.result c.next_open.ensures.next c.if-is_none.ensures, refl)

pub returns-clause-completion : goal.returns-clause-completion
returns-clause-completion c = record {
  newly_are = λ b stands. newly_set b c.args.world.now (jobs_of c.args.jobs.now) (jobs_of c.closure-all.result)
      (λ k. c.closure-all.ensures.all b stands k) c.in_ok-newly.newly.items (c.in_ok-newly.ensures b stands);
  jobs = c.complete.ensures.book;
  places = c.settle.ensures.places;
  used = c.settle.ensures.fewer;
  peak = c.settle.ensures.peak;
  rest = refl;
}
