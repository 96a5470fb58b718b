-- The jobs of a well ordered plan are cut as jobs are.
use Rattle.std.proofs.Common.{◌≡◌, ℕ, Some}
use Rattle.frame_core.specs.declared.plan.JobPlan.{JobPlan}
use Rattle.frame_core.specs.declared.plan.Plan.{Plan}
use Rattle.frame_core.specs.Names.{job_at}
use Rattle.frame_core.specs.Ordered.{IsCutIn, IsWellOrderedPlan}
use Rattle.frame_core.proofs.Planned.{has_kernel}

pub cut_at : (plan : Plan) → IsWellOrderedPlan plan → (j : ℕ) (x : JobPlan) → job_at plan j ≡ Some x → IsCutIn x
cut_at plan well j x has = let k = has_kernel plan well.jobs j x has in (well.jobs.fits j x k.0 has k.1).cut
