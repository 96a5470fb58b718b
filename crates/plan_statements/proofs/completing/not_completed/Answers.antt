use Rattle.std.proofs.Common.{ap, ◌∙◌, ◌≡◌, ◌-◌, arith}
use Rattle.job_handle.specs.Books.{count_of}
use Rattle.job_handle.specs.Sets.{jobs_of}
use Rattle.plan_statements.specs.Completions.{newly_of}
use Rattle.plan_state.specs.Growth.{rising_jobs}
use Rattle.plan_statements.proofs.CompletedJobs.{next_to, none_left}
use Rattle.plan_statements.proofs.completing.not_completed.Goals as goal

pub loop-job-init : goal.loop-job-init
loop-job-init c =
    let before = c.args.world.now.jobs_before in
    record {
      low = omega arith;
      high = c.requires;
      ids = λ b stands. c.new-ids.ensures.items
          ∙ (let z : 0 ≡ before - before = omega arith in ap (rising_jobs (newly_of b before (jobs_of c.args.all.now))) z);
    }

pub overflow_sub-job : goal.overflow_sub-job
overflow_sub-job c = let low = c.loop-job.invariant.low in let lt = c.in-Some.ensures.within.0 in omega arith

pub loop-job-smaller : goal.loop-job-smaller
loop-job-smaller c = let lt = c.in-Some.ensures.within.0 in let le = c.in-Some.ensures.within.1 in omega arith

pub loop-job-preserved : goal.loop-job-preserved
loop-job-preserved c =
    let was = c.loop-job.invariant in
    let within = c.in-Some.ensures.within in
    let lt = within.0 in
    record {
      low = let low = was.low in omega arith;
      high = within.1;
      ids = λ b stands.
          let is = c.in-Some.ensures.next b stands in
          next_to b c.args.world.now.jobs_before (jobs_of c.args.all.now) c.loop-job.at c.in-Some.job.0 was.low lt is.2 is.3
          c.loop-job.ids.items c.push.new.self.items (was.ids b stands) c.in_ok-push.ensures.items;
    }

pub returns : goal.returns
returns c b stands =
    let was = c.loop-job.invariant in
    none_left b c.args.world.now.jobs_before (jobs_of c.args.all.now) c.loop-job.at (count_of c.args.world.now.jobs) was.low was.high
    (c.in_default.ensures.next b stands) c.loop-job.ids.items (was.ids b stands)
