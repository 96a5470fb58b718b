use Rattle.std.proofs.Common.{◌-◌, true, false, ◌∙◌, arith}
use Rattle.job_handle.specs.Books.{count_of}
use Rattle.job_handle.specs.Sets.{jobs_of}
use Rattle.plan_schedules.proofs.Later.{none_within, none_has, none_so_far, number_reached, numbers_passed, without_none, all_numbers}
use Rattle.plan_schedules.proofs.new_job.later_jobs.Goals as goal

pub loop-job-init : goal.loop-job-init
loop-job-init c =
    let before = c.args.world.now.jobs_before in
    let len = c.new-later.ensures.items in
    record {
      low = omega arith;
      high = c.requires.before;
      within = none_within (before - before) c.new-later.result.items len;
      are = λ j. none_has c.new-later.result.items len j ∙ none_so_far before (jobs_of c.args.jobs.now) j;
    }

pub overflow_sub-job : goal.overflow_sub-job
overflow_sub-job c = let low = c.loop-job.invariant.low in let lt = c.in-Some.ensures.0 in omega arith

pub loop-job-smaller : goal.loop-job-smaller
loop-job-smaller c =
    let lt = c.in-Some.ensures.0 in
    let le = c.in-Some.ensures.1 in
    let count = c.count.ensures.count in
    omega arith

pub loop-job-preserved : goal.loop-job-preserved
loop-job-preserved c =
    let was = c.loop-job.invariant in
    let jobs = jobs_of c.args.jobs.now in
    let none = jobs_of c.nobody-none.result.now in
    let is = c.in-Some.ensures in
    let lt = is.0 in
    let le = is.1 in
    let count = c.count.ensures.count in
    let so = number_reached c.args.world.now.jobs_before c.loop-job.at c.in-Some.job.0 jobs c.loop-job.later.items c.push.new.self.items was.low lt
    (was.within, was.are)
    (without_none jobs none c.nobody-none.ensures c.in-Some.job.0 true is.2)
    (λ k low high. without_none jobs none c.nobody-none.ensures k false (is.3 k low high))
    c.in_ok-push.ensures.items in
    record {
      low = let low = was.low in omega arith;
      high = omega arith;
      within = so.0;
      are = so.1;
    }

pub returns : goal.returns
returns c =
    let was = c.loop-job.invariant in
    let before = c.args.world.now.jobs_before in
    let count = count_of c.args.world.now.jobs in
    let jobs = jobs_of c.args.jobs.now in
    let none = jobs_of c.nobody-none.result.now in
    let same = c.count.ensures.count in
    let so = numbers_passed before c.loop-job.at count jobs c.loop-job.later.items was.low was.high (was.within, was.are)
    (λ k low high. without_none jobs none c.nobody-none.ensures k false (c.in_default.ensures k low (omega arith))) in
    record { within = so.0; are = all_numbers before count jobs c.loop-job.later.items c.requires.jobs so }
