-- What became of the schedules of a script.
--
-- Decided here: what a story may say of a part of a script and its plan. Which schedule made which job isn't decided
-- here: a plan doesn't say it.
use Rattle.std.specs.Prelude.{◌≡◌, ℕ, zero, suc, ◌+◌, ◌<◌, ◌≤◌, Bool, true, false, List, [], ◌∷◌, ◌++◌, Option, Some, None, length, slice_get}
use Rattle.frame_ast.specs.declared.script.Arg.{Arg}
use Rattle.frame_ast.specs.declared.script.Order.{Order}
use Rattle.frame_ast.specs.declared.script.Order.TheVariants.{Schedule}
use Rattle.frame_ast.specs.declared.script.Script.{Script}
use Rattle.frame_ast.specs.declared.script.Statement.{Statement}
use Rattle.frame_core.specs.declared.plan.Plan.{Plan}
use Rattle.frame_view.specs.declared.marks.Mark.{Mark}
use Rattle.frame_view.specs.declared.marks.Mark.TheVariants.{Starts, Says}
use Rattle.frame_view.specs.declared.story.Refused.{Refused}
use Rattle.frame_view.specs.declared.story.Story.{Story}
use Rattle.frame_view.specs.declared.part.Part.{Part}
use Rattle.frame_view.specs.Marks.{fits, marks_of}
use Rattle.frame_view.specs.Parts.{passed_with, statements_in, whole}

abbrev pub is_schedule : Order → Bool
is_schedule (Schedule job) = true
is_schedule _ = false

-- the arguments of a statement that is a schedule
abbrev pub args_in : Order → List Arg
args_in (Schedule job) = job.value.args.items
args_in _ = []

abbrev pub args_by : Option Statement → List Arg
args_by None = []
args_by (Some x) = args_in x.act

-- At this place among the statements there is a schedule of that line.
abbrev pub IsScheduleAt : Script → ℕ → ℕ → Type 0
IsScheduleAt script at line = (x : Statement) × (slice_get script.statements.items at ≡ Some x)
    × (is_schedule x.act ≡ true) × (x.line ≡ line)

-- A statement of that line is refused so: an operation of the plan says it.
abbrev pub IsSaid : Plan → ℕ → Refused → Type 0
IsSaid plan line r = (i : ℕ) × (slice_get (marks_of plan.segments.items) i ≡ Some (Says line r.name r.refusal))

-- A schedule that is told as refused: it stands in the script, and the plan says that its line is refused.
abbrev pub IsRefusedAt : Script → Plan → Refused → Type 0
IsRefusedAt script plan r = (line : ℕ) × IsScheduleAt script r.at line × IsSaid plan line r

-- what is taken down of the schedule at a place that left a mark
abbrev pub made_by : ℕ → Mark → List ℕ
made_by at Starts = at ∷ []
made_by at (Says line name refusal) = []

abbrev pub refused_by : ℕ → Mark → List Refused
refused_by at Starts = []
refused_by at (Says line name refusal) = record { at = at; name = name; refusal = refusal } ∷ []

-- A story of a part of a script and its plan.
pub record IsStoryIn (script : Script) (part : Part) (plan : Plan) (story : Story) : Type 0 where
  -- all of them stand in the part that the plan is of
  pub made_in : (j at : ℕ) → slice_get story.made.items j ≡ Some at → (part.from ≤ at) × (at < part.to)
  pub refused_in : (i : ℕ) (r : Refused) → slice_get story.refused.items i ≡ Some r
      → (part.from ≤ r.at) × (r.at < part.to)
  -- each that made a job is a schedule of the script, and they stand in rising order
  pub made : (j at : ℕ) → slice_get story.made.items j ≡ Some at → (line : ℕ) × IsScheduleAt script at line
  pub rising : (i j a b : ℕ) → i < j → slice_get story.made.items i ≡ Some a → slice_get story.made.items j ≡ Some b
      → a < b
  -- each refused one is a schedule whose refusal the plan says
  pub refused : (i : ℕ) (r : Refused) → slice_get story.refused.items i ≡ Some r → IsRefusedAt script plan r
  -- none both made a job and was refused
  pub apart : (i j at : ℕ) (r : Refused) → slice_get story.made.items j ≡ Some at
      → slice_get story.refused.items i ≡ Some r → r.at ≡ at → ⊥
  -- there are no more than statements
  pub few : length story.refused.items ≤ length script.statements.items

-- WHICH MARKS STATEMENTS LEFT
--
-- A schedule leaves one mark: the start of its job, or its refusal. Another statement leaves refusals of its own line,
-- on which no schedule stands; and a `when` inside the part is refused, so its block is passed by. What is passed by
-- leaves nothing. So there is no choice: what the statements left is what the story tells.

-- no schedule of the script may have left this mark
abbrev pub IsOther : Script → Mark → Type 0
IsOther script m = (at : ℕ) (x : Statement) → slice_get script.statements.items at ≡ Some x → is_schedule x.act ≡ true
    → fits x.line m ≡ false

abbrev pub AreOthers : Script → List Mark → Type 0
AreOthers script [] = Unit {0}
AreOthers script (m ∷ more) = IsOther script m × AreOthers script more

-- The statement at a place left the first of these marks, and `rest` says what the later statements left.
abbrev pub LeavesOne : Bool → Script → ℕ → Statement → (List Mark → List ℕ → List Refused → Type 0)
    → List Mark → List ℕ → List Refused → Type 0
LeavesOne true script at x rest marks made refused = (m : Mark) × (ms : List Mark) × (js : List ℕ) × (rs : List Refused)
    × (fits x.line m ≡ true) × (marks ≡ m ∷ ms) × (made ≡ made_by at m ++ js) × (refused ≡ refused_by at m ++ rs)
    × rest ms js rs
LeavesOne false script at x rest marks made refused = (said : List Mark) × (ms : List Mark) × AreOthers script said
    × (marks ≡ said ++ ms) × rest ms made refused

-- the same, where so many statements are to be passed by before it; `rest` is told how many after it
abbrev pub LeavesFrom : ℕ → Script → ℕ → Statement → (ℕ → List Mark → List ℕ → List Refused → Type 0)
    → List Mark → List ℕ → List Refused → Type 0
LeavesFrom zero script at x rest marks made refused =
    LeavesOne (is_schedule x.act) script at x (rest (passed_with x.act)) marks made refused
LeavesFrom (suc more) script at x rest marks made refused = rest more marks made refused

-- The statements from a place on, of which so many first ones are passed by, left these marks: by them those schedules
-- made jobs, and these were refused.
abbrev pub Leaves : Script → ℕ → List Statement → ℕ → List Mark → List ℕ → List Refused → Type 0
Leaves script at [] passing marks made refused = (marks ≡ []) × (made ≡ []) × (refused ≡ [])
Leaves script at (x ∷ more) passing marks made refused =
    LeavesFrom passing script at x (λ n. Leaves script (at + 1) more n) marks made refused

-- The story tells each mark of a schedule: however the statements of a part left the plan's marks, it tells just that.
abbrev pub TellsAllIn : Script → Part → Plan → Story → Type 0
TellsAllIn script part plan story = (made : List ℕ) (refused : List Refused)
    → Leaves script part.from (statements_in script part) part.passed (marks_of plan.segments.items) made refused
    → (story.made.items ≡ made) × (story.refused.items ≡ refused)

-- THE WHOLE OF A SCRIPT, where it has no `when`

abbrev pub IsStory : Script → Plan → Story → Type 0
IsStory script plan story = IsStoryIn script (whole script) plan story

abbrev pub TellsAll : Script → Plan → Story → Type 0
TellsAll script plan story = TellsAllIn script (whole script) plan story
