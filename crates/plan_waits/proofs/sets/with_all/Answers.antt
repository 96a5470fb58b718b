use Rattle.std.proofs.Common.{◌∙◌, ◌||◌, ap}
use Rattle.job_handle.specs.Sets.{jobs_of}
use Rattle.plan_waits.proofs.Lists.{on_step}
use Rattle.plan_waits.proofs.sets.with_all.Goals as goal

pub loop-id-preserved : goal.loop-id-preserved
loop-id-preserved c = on_step _ _ _ _ _ _ c.loop-id-test.true
    (λ n. ap (λ f. f n) c.combine-all.ensures ∙ ap (λ f. jobs_of c.loop-id.all n || f n) c.of.ensures) c.loop-id.invariant
