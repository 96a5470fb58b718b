-- Reports of a frame that is run in sections, one after another, each of them a plan of its own.
use Rattle.std.specs.Prelude.{ℕ, ◌+◌, ◌*◌, ◌<◌, ◌≤◌, ◌^◌, List, map, length}
use Rattle.job_base.specs.declared.limits.TheConstants.{MOST_INDEXES}
use Rattle.frame_ast.specs.States.{JobTrap}
use Rattle.frame_core.specs.declared.report.Report.{Report}
use Rattle.frame_core.specs.declared.plan.Plan.{Plan}
use Rattle.frame_core.specs.Names.{job_pieces}
use Rattle.frame_core.specs.Ordered.{IsWellOrderedPlan}
use Rattle.plan_run.specs.Runs.{IsReport}

-- A section numbers its jobs from 1. These are its traps by the numbers that its jobs have in the frame, where so many
-- come before it.
abbrev pub shifted : ℕ → List JobTrap → List JobTrap
shifted before traps = map (λ (t : JobTrap). record t { job = t.job + before }) traps

-- What a report counts has bounds that the plan gives, and the job of its first trap is one of the plan. So the counts
-- of all sections can be added, and a job's number in the frame fits its type.
pub record IsWithin (plan : Plan) (report : Report) : Type 0 where
  pub traps : report.traps ≤ MOST_INDEXES * job_pieces plan
  pub refused : report.refused < 2 ^ 32
  pub job : 0 < report.traps → report.job.0 ≤ length plan.jobs.items

abbrev pub ReportsAreWithin : Type 0
ReportsAreWithin = (plan : Plan) (report : Report)
    → IsWellOrderedPlan plan → IsReport plan report → IsWithin plan report
