-- The jobs that a segment of a well ordered plan waits for are jobs.
use Rattle.std.proofs.Common.{◌≡◌, ℕ, zero, suc, ◌<◌, ◌≤◌, List, [], ◌∷◌, All, Some, arith}
use Rattle.job_base.specs.declared.JobId.{JobId}
use Rattle.job_base.specs.declared.limits.TheConstants.{MOST_JOBS}
use Rattle.frame_core.specs.declared.plan.Plan.{Plan}
use Rattle.frame_core.specs.declared.plan.Segment.{Segment}
use Rattle.frame_core.specs.Names.{segment_at}
use Rattle.frame_core.specs.Ordered.{IsAbove, IsWellOrderedPlan}

jobs_fit : (n m : ℕ) (ids : List JobId) → m ≤ MOST_JOBS → IsAbove n ids → All (λ (id : JobId). id.0 ≤ m) ids
    → All (λ (id : JobId). (0 < id.0) × (id.0 ≤ MOST_JOBS)) ids
jobs_fit n m [] le above most k d lt = absurd (omega arith)
jobs_fit n m (id ∷ more) le above most zero d lt =
    let a = above.0 in let b = most 0 d lt in (omega arith, omega arith)
jobs_fit n m (id ∷ more) le above most (suc k) d lt =
    jobs_fit id.0 m more le above.1 (λ j e below. most (suc j) e (omega arith)) k d (omega arith)

pub waits_fit : (plan : Plan) → IsWellOrderedPlan plan → (k : ℕ) (s : Segment) → segment_at plan k ≡ Some s
    → All (λ (id : JobId). (0 < id.0) × (id.0 ≤ MOST_JOBS)) s.waits.items
waits_fit plan well k s at =
    let jobs = well.order.waits k s at in
    jobs_fit 0 _ s.waits.items well.sized.jobs jobs.0 jobs.1
