use Rattle.std.proofs.Common.{[], ◌∙◌, arith}
use Rattle.frame_core.specs.Names.{IsJobOf}
use Rattle.plan_run.specs.Says.{said_to}
use Rattle.plan_run.proofs.Saying.{says_after}
use Rattle.plan_run.proofs.InOps.{all_tail}
use Rattle.steal_pool.proofs.Seating.{on_after, waits_next}
use Rattle.steal_pool.proofs.waiting.wait_all.Goals as goal

pub loop-job-preserved : goal.loop-job-preserved
loop-job-preserved g c = let i = c.wait_one-own.ensures in let v = c.loop-job.invariant in let at = c.in-Some.ensures.cases.0 in record {
  home = i.home ∙ v.home;
  idle = i.idle;
  on = on_after (g.B.Board.know c.args.seat) (g.B.Board.know c.loop-job.own) (g.B.Board.know c.wait_one-own.result) v.on i.on;
  jobs = all_tail (IsJobOf c.args.crew.now.plan.now) c.loop-job.rest.now c.in-Some.tail.now c.in-Some.job.now at v.jobs;
  waits = waits_next c.args.waits.now c.loop-job.rest.now c.in-Some.tail.now c.in-Some.job.now (g.B.Board.know c.loop-job.own).seen
      (g.B.Board.know c.wait_one-own.result).seen at v.waits i.seen i.on.seen;
  says = says_after (said_to g.S.Sink.taken g.S.Sink.faults c.args.sink.now c.args.out.now c.args.failed.now)
      (said_to g.S.Sink.taken g.S.Sink.faults c.loop-job.sink c.loop-job.out c.loop-job.failed)
      (said_to g.S.Sink.taken g.S.Sink.faults c.wait_one-own.new.sink c.wait_one-own.new.out c.wait_one-own.new.failed) [] [] v.says i.text;
  later = let a = v.later in let b = i.later in omega (arith, a, b);
}
