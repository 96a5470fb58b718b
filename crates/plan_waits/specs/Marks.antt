-- How a wait is marked.
use Rattle.std.specs.Prelude.{if◌then◌else◌}
use Rattle.job_base.specs.declared.JobId.{JobId}
use Rattle.frame_ast.specs.Jobs.{Jobs}
use Rattle.plan_waits.specs.declared.arrow.Cause.TheVariants.{Depends, Completed}
use Rattle.plan_waits.specs.declared.arrow.Arrow.{Arrow}

-- an arrow from a job, where those of a set were completed
abbrev pub arrow_of : Jobs → JobId → Arrow
arrow_of completed id = record { from = id; cause = if completed id.0 then Completed else Depends }
