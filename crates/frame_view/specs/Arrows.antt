-- The arrows of a picture, as they are shown.
--
-- Decided here: which arrow stands for a wait, and which for a job that blocks a schedule. Which waits there are is
-- said in `plan_waits` (`Arrows`). The labels of arrows aren't decided.
use Rattle.std.specs.Prelude.{ℕ, ◌+◌, Bool, true, false, nat_eq, ◌&&◌, ◌||◌, List, [], ◌∷◌, ◌++◌, map, Option, Some, None}
use Rattle.std.specs.declared.alloc.Global.{Global}
use Rattle.std.specs.declared.vec.Vec.{Vec}
use Rattle.job_base.specs.declared.JobId.{JobId}
use Rattle.job_depth.specs.declared.report.Depth.{Depth}
use Rattle.plan_waits.specs.declared.arrow.Arrow.{Arrow}
use Rattle.plan_waits.specs.declared.arrow.Cause.{Cause}
use Rattle.plan_waits.specs.declared.arrow.Cause.TheVariants as cause
use Rattle.view_text.specs.declared.picture.Link.{Link}
use Rattle.view_text.specs.declared.picture.Tie.{Tie}
use Rattle.view_text.specs.declared.picture.Tie.TheVariants as tie
use Rattle.frame_view.specs.declared.story.Refused.{Refused}
use Rattle.frame_view.specs.Boxes.{blocker_in, shown}

-- An arrow, from a job to another one or to a refused schedule, by their numbers: those of jobs are their numbers in
-- the script.
pub record Line : Type 0 where
  pub from : ℕ
  pub to : ℕ
  pub tie : Tie

abbrev pub line_of : Link → Line
line_of k = record { from = k.from; to = k.to; tie = k.tie }

-- WAITS

-- One job stands right before another one, by their numbers, in a chain before whose first job another one stands.
abbrev pub is_step : ℕ → List JobId → ℕ → ℕ → Bool
is_step before [] earlier later = false
is_step before (id ∷ more) earlier later =
    (nat_eq before earlier && nat_eq id.0 later) || is_step id.0 more earlier later

abbrev pub tie_of : Cause → Bool → Tie
tie_of cause.Depends false = tie.Depends
tie_of cause.Depends true = tie.DependsOnChain
tie_of cause.Completed false = tie.Completed
tie_of cause.Completed true = tie.CompletedOnChain

-- the arrow of a wait of the job of that number among the plan's jobs, before which the script has so many
abbrev pub arrow_line : Depth → ℕ → ℕ → Arrow → Line
arrow_line depth before later a = record {
  from = shown before a.from.0;
  to = shown before later;
  tie = tie_of a.cause (is_step 0 depth.chain.items a.from.0 later);
}

-- those of some jobs, the first of which has this number
abbrev pub arrow_lines : Depth → ℕ → ℕ → List (Vec Arrow Global) → List Line
arrow_lines depth before number [] = []
arrow_lines depth before number (arrows ∷ more) =
    map (arrow_line depth before number) arrows.items ++ arrow_lines depth before (number + 1) more

-- JOBS THAT BLOCK A SCHEDULE

abbrev pub block_line : ℕ → Option JobId → List Line
block_line number None = []
block_line number (Some id) = record { from = id.0; to = number; tie = tie.Blocks } ∷ []

-- those of some refused schedules, the first of which has this number
abbrev pub block_lines : ℕ → ℕ → List Refused → List Line
block_lines before number [] = []
block_lines before number (r ∷ more) = block_line number (blocker_in before r.refusal)
    ++ block_lines before (number + 1) more
