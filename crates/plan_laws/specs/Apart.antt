-- The pieces of a job are apart.
use Rattle.std.specs.Prelude.{ℕ, ◌≡◌, Some}
use Rattle.frame_ast.specs.declared.kernel.Kernel.{Kernel}
use Rattle.frame_core.specs.declared.plan.JobPlan.{JobPlan}
use Rattle.frame_core.specs.Names.{job_at, kernel_of, pieces_of}
use Rattle.frame_core.specs.Ordered.{JobFits}
use Rattle.plan_laws.specs.Enrolling.{ArePartsApart}
use Rattle.plan_laws.specs.Planned.{Outline}

abbrev pub PartsAreApart : Type 0
PartsAreApart = (x : Outline) (n : ℕ) (job : JobPlan) (kernel : Kernel)
    → job_at x.plan n ≡ Some job
    → kernel_of x.plan job ≡ Some kernel
    → JobFits x.plan job kernel
    → ArePartsApart x n (pieces_of job)
