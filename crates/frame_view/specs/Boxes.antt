-- The boxes of a picture, as they are shown.
--
-- Decided here: which box stands for a job, and which for a refused schedule.
use Rattle.std.specs.Prelude.{ℕ, zero, suc, ◌+◌, ◌^◌, ◌-◌, nat_lt, max, min, Bool, List, [], ◌∷◌, ◌++◌, map, get_or, Option, Some, None, option_and_then, slice_get, codes, decimal, string_bytes, if◌then◌else◌}
use Rattle.job_base.specs.declared.JobId.{JobId}
use Rattle.job_base.specs.declared.Refusal.{Refusal}
use Rattle.job_base.specs.declared.Refusal.TheVariants.{Pending}
use Rattle.frame_ast.specs.declared.script.Order.{Order}
use Rattle.frame_ast.specs.declared.script.Order.TheVariants.{Schedule}
use Rattle.frame_ast.specs.declared.script.Script.{Script}
use Rattle.frame_ast.specs.declared.script.Statement.{Statement}
use Rattle.frame_core.specs.declared.plan.JobPlan.{JobPlan}
use Rattle.frame_core.specs.Names.{has_job, pieces_of}
use Rattle.job_depth.specs.declared.report.Depth.{Depth}
use Rattle.schedule_text.specs.declared.boxes.Size.{Size}
use Rattle.schedule_text.specs.Boxes.{job_lines, refused_lines}
use Rattle.view_text.specs.declared.picture.Kind.{Kind}
use Rattle.view_text.specs.declared.picture.Kind.TheVariants as kind
use Rattle.view_text.specs.declared.picture.Node.{Node}
use Rattle.frame_view.specs.declared.story.Refused.{Refused}
use Rattle.frame_view.specs.declared.story.Story.{Story}

-- A box, with its lines as bytes.
pub record Box : Type 0 where
  pub number : ℕ
  pub kind : Kind
  pub level : ℕ
  pub lines : List (List ℕ)

abbrev pub box_of : Node → Box
box_of n = record { number = n.number; kind = n.kind; level = n.level; lines = map (λ v. string_bytes v) n.lines.items }

-- JOBS. j is the place of a job among the plan's jobs, from 0, so its number among them is j + 1. `before` is how many
-- jobs earlier sections have: in a picture a job goes by its number in the script.

abbrev pub shown : ℕ → ℕ → ℕ
shown before number = min (before + number) (2 ^ 32 - 1)

abbrev pub kind_by : Bool → Kind
kind_by chained = if chained then kind.Chain else kind.Job

abbrev pub size_of : JobPlan → Size
size_of x = record { indexes = x.cut.n; pieces = pieces_of x }

-- the line of a job whose schedule isn't known
abbrev pub plain_lines : ℕ → List (List ℕ)
plain_lines number = (codes "job " ++ decimal number) ∷ []

abbrev pub lines_in : Script → ℕ → Size → ℕ → Order → List (List ℕ)
lines_in script number size line (Schedule job) = job_lines script line job.value number size
lines_in script number size line _ = plain_lines number

abbrev pub lines_by : Script → ℕ → Size → Option Statement → List (List ℕ)
lines_by script number size None = plain_lines number
lines_by script number size (Some x) = lines_in script number size x.line x.act

-- the statement that made a job, by the story
abbrev pub maker_of : Script → Story → ℕ → Option Statement
maker_of script story j = option_and_then (slice_get script.statements.items) (slice_get story.made.items j)

-- The box of a job: its number, whether it is on the longest chain, its level, and the lines of its schedule.
abbrev pub job_box : Script → Story → Depth → ℕ → ℕ → JobPlan → Box
job_box script story depth before j x = record {
  number = shown before (j + 1);
  kind = kind_by (has_job depth.chain.items (j + 1));
  level = get_or depth.levels.items j 0;
  lines = lines_by script (shown before (j + 1)) (size_of x) (maker_of script story j);
}

-- those of some jobs, the first of which is at place j
abbrev pub job_boxes : Script → Story → Depth → ℕ → ℕ → List JobPlan → List Box
job_boxes script story depth before j [] = []
job_boxes script story depth before j (x ∷ more) = job_box script story depth before j x
    ∷ job_boxes script story depth before (j + 1) more

-- REFUSED SCHEDULES

-- the job that blocks it
abbrev pub blocker_of : Refusal → Option JobId
blocker_of (Pending id) = Some id
blocker_of _ = None

-- the same where it is one of those after so many jobs
abbrev pub blocker_after : ℕ → Option JobId → Option JobId
blocker_after before None = None
blocker_after before (Some id) = if nat_lt before id.0 then Some id else None

abbrev pub blocker_in : ℕ → Refusal → Option JobId
blocker_in before r = blocker_after before (blocker_of r)

-- the level after that of a job by its number among the plan's jobs
abbrev pub level_at : List ℕ → ℕ → ℕ
level_at levels zero = 1
level_at levels (suc j) = min (get_or levels j 0 + 1) (2 ^ 32 - 1)

-- one below the job that blocks it, where that is one of the plan, and else at the top
abbrev pub level_after : List ℕ → ℕ → Option JobId → ℕ
level_after levels before None = 1
level_after levels before (Some id) = level_at levels (id.0 - before)

abbrev pub refused_lines_in : Script → Refused → ℕ → Order → List (List ℕ)
refused_lines_in script r line (Schedule job) = refused_lines script line job.value r.refusal r.name
refused_lines_in script r line _ = []

abbrev pub refused_lines_by : Script → Refused → Option Statement → List (List ℕ)
refused_lines_by script r None = []
refused_lines_by script r (Some x) = refused_lines_in script r x.line x.act

abbrev pub refused_box : Script → Depth → ℕ → ℕ → Refused → Box
refused_box script depth before number r = record {
  number = number;
  kind = kind.Refused;
  level = level_after depth.levels.items before (blocker_in before r.refusal);
  lines = refused_lines_by script r (slice_get script.statements.items r.at);
}

-- those of some refused schedules, the first of which has this number
abbrev pub refused_boxes : Script → Depth → ℕ → ℕ → List Refused → List Box
refused_boxes script depth before number [] = []
refused_boxes script depth before number (r ∷ more) =
    refused_box script depth before number r ∷ refused_boxes script depth before (number + 1) more

-- THE GREATEST LEVEL of some boxes, or a greater one

abbrev pub greatest_level : ℕ → List Box → ℕ
greatest_level n [] = n
greatest_level n (b ∷ more) = greatest_level (max b.level n) more
