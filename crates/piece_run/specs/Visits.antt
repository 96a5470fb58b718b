-- Visits of a plan's job.
use Rattle.std.specs.Prelude.{◌≡◌, Some}
use Rattle.kernel_machine.specs.declared.scratch.Scratch.{Scratch}
use Rattle.kernel_machine.specs.Visits.{IsVisit, binds_in, kernel_in}
use Rattle.frame_core.specs.declared.plan.Plan.{Plan}
use Rattle.frame_core.specs.Names.{job_at, kernel_of}
use Rattle.piece_run.specs.declared.running.JobVisit.{JobVisit}

-- The job is the one at its place, its kernel is visited on its arguments, and the scratch is ready to run it.
pub record IsVisitOf (plan : Plan) (visit : JobVisit) (scratch : Scratch) : Type 0 where
  pub job : job_at plan visit.place ≡ Some visit.job.now
  pub kernel : kernel_of plan visit.job.now ≡ Some (kernel_in visit.visit)
  pub binds : binds_in visit.visit ≡ visit.job.now.binds.items
  pub ready : IsVisit visit.visit scratch
