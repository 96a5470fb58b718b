use Rattle.std.proofs.Common.{true, refl}
use Rattle.plan_statements.proofs.CompletedJobs.{one_more}
use Rattle.frame_plan.proofs.finishing.all_jobs.Goals as goal

pub loop-j-preserved : goal.loop-j-preserved
loop-j-preserved c =
    let l = c.loop-j in
    one_more (λ j. true) l.j l.ids.items _ l.invariant refl c.in_ok-push.ensures.items
