-- What statements left in a plan: the starts of jobs, and refusals.
use Rattle.std.specs.Prelude.{ℕ, ◌+◌, Bool, true, if◌then◌else◌, nat_eq, List, [], ◌∷◌, ◌++◌, Option, Some, None, option_to_list}
use Rattle.job_base.specs.declared.JobId.{JobId}
use Rattle.frame_core.specs.declared.plan.Act.{Act}
use Rattle.frame_core.specs.declared.plan.Act.TheVariants.{Say}
use Rattle.frame_core.specs.declared.plan.Op.{Op}
use Rattle.frame_core.specs.declared.plan.Segment.{Segment}
use Rattle.frame_view.specs.declared.marks.Mark.{Mark}
use Rattle.frame_view.specs.declared.marks.Mark.TheVariants.{Starts, Says}

-- a schedule of a line may have left the start of a job, or a refusal of its line
abbrev pub fits : ℕ → Mark → Bool
fits wanted Starts = true
fits wanted (Says line name refusal) = nat_eq line wanted

-- the place of the first mark that a schedule of a line may have left, among those from a place on
abbrev pub next_fit : ℕ → ℕ → List Mark → Option ℕ
next_fit line at [] = None
next_fit line at (m ∷ more) = if fits line m then Some at else next_fit line (at + 1) more

-- the refusal that an operation says
abbrev pub mark_in : ℕ → ℕ → Act → Option Mark
mark_in line name (Say refusal) = Some (Says line name refusal)
mark_in line name _ = None

abbrev pub op_marks : List Op → List Mark
op_marks [] = []
op_marks (op ∷ more) = option_to_list (mark_in op.line op.name op.act) ++ op_marks more

abbrev pub start_marks : Option JobId → List Mark
start_marks None = []
start_marks (Some id) = Starts ∷ []

abbrev pub segment_marks : Segment → List Mark
segment_marks s = op_marks s.ops.items ++ start_marks s.starts

abbrev pub marks_of : List Segment → List Mark
marks_of [] = []
marks_of (s ∷ more) = segment_marks s ++ marks_of more
