-- What the run of one plan leaves and reports.
use Rattle.std.specs.Prelude.{◌≡◌, ℕ, ◌<◌, Bool, true, ℤ, List, length, Option}
use Rattle.job_base.specs.Cells.{cells_of}
use Rattle.frame_core.specs.declared.plan.Plan.{Plan}
use Rattle.frame_core.specs.Graphs.{cells_after}
use Rattle.frame_core.specs.Output.{plan_lines}
use Rattle.plan_run.specs.Runs.{IsReport}
use Rattle.plan_run.specs.Says.{SaysTo}
use Rattle.frame_top.specs.declared.section.SectionRun.{SectionRun}

-- A memory holds the cells after the run of a plan in script order, and no more.
pub record AreCellsOf (plan : Plan) (left : List ℤ) : Type 0 where
  pub size : length left ≡ plan.words
  pub each : (w : ℕ) → w < plan.words → cells_of left w ≡ cells_after plan w

-- The lines of a plan were said, unless a write had failed before; the report is that of the plan; and its cells are
-- kept where they are asked for.
pub record HasRunPlan {S : Type 0} (taken : S → Option (List ℕ)) (faults : S → ℕ) (plan : Plan) (keeps : Bool)
    (old : S) (waited : List ℕ) (failed : Bool) (new : S) (waits : List ℕ) (r : SectionRun) : Type 0 where
  pub lines : SaysTo taken faults old waited failed new waits r.failed (plan_lines plan)
  pub report : IsReport plan r.report
  pub cells : keeps ≡ true → AreCellsOf plan r.left
