-- Where a frame is that is run by turns, and what it comes to.
--
-- A frame stands between two sections, or in one. Decided here is what was said until then, and that what comes next
-- can be run. Who takes which turn, and when, is decided by the caller alone, and none of it says who did.
use Rattle.std.specs.Prelude.{◌≡◌, ◌<◌, ℕ, Bool, false, ℤ, List, [], ◌++◌, length, All, Option, None, Some, IfSome}
use Rattle.job_base.specs.Cells.{cells_of}
use Rattle.frame_ast.specs.declared.script.Script.{Script}
use Rattle.frame_ast.specs.Accepted.{IsAccepted}
use Rattle.frame_ast.specs.Orders.{Table}
use Rattle.frame_ast.specs.Scripts.{output_of, status_of}
use Rattle.frame_ast.specs.States.{ScriptState}
use Rattle.frame_core.specs.declared.plan.Plan.{Plan}
use Rattle.frame_core.specs.Output.{plan_lines}
use Rattle.frame_plan.specs.Bindings.{IsBindAt, bind_in}
use Rattle.frame_plan.specs.declared.sections.SectionBook.{SectionBook}
use Rattle.plan_run.specs.Runs.{IsReport, RunsBetween, is_fault, report_of}
use Rattle.plan_run.specs.Says.{SaysTo}
use Rattle.plan_run.specs.declared.run_end.RunEnd.{RunEnd}
use Rattle.plan_state.specs.Steps.{state_at}
use Rattle.plan_statements.specs.Tables.{columns_of}
use Rattle.table_in.specs.Columns.{NamedColumn}
use Rattle.steal_pool.specs.declared.place.Place.{Place}
use Rattle.steal_pool.specs.Seats.{IsFirst, IsReady}
use Rattle.steal_pool.specs.Turns.{HasSaid, IsStanding}
use Rattle.word_board.specs.declared.seat.WordSeat.{WordSeat}
use Rattle.word_board.specs.Boards.{home_of, know_of, name_of}
use Rattle.frame_stage.specs.declared.stage.Stage.{Stage}
use Rattle.frame_stage.specs.Stages.{IsShared, IsStage, stage_of}
use Rattle.frame_top.specs.Running.{HasRun, IsMade, IsReportAt}
use Rattle.frame_host.specs.Reports.{IsFrameReport}
use Rattle.frame_host.specs.declared.answer.FrameAnswer.{FrameAnswer}
use Rattle.frame_host.specs.declared.answer.FrameEnd.{FrameEnd}
use Rattle.frame_host.specs.declared.answer.FrameEnd.TheVariants.{Next, Over, NoMemory}
use Rattle.frame_host.specs.declared.frame.Frame.{Frame}
use Rattle.frame_host.specs.declared.section.FrameSection.{FrameSection}
use Rattle.frame_host.specs.declared.text.KeptText.{KeptText}

-- WHAT IS RUN

-- the script of a frame
abbrev pub tree_in : Frame → Script
tree_in frame = frame.tree.value

-- its columns
abbrev pub columns_in : Frame → List NamedColumn
columns_in frame = frame.table

-- the same, as the script asks for them
abbrev pub table_in : Frame → Table
table_in frame = columns_of (columns_in frame)

-- the script of an answer, and its columns
abbrev pub answered_tree : FrameAnswer → Script
answered_tree answer = answer.tree.value

abbrev pub answered_columns : FrameAnswer → List NamedColumn
answered_columns answer = answer.table

abbrev pub answered_table : FrameAnswer → Table
answered_table answer = columns_of (answered_columns answer)

-- WHAT WAS SAID

abbrev pub taken_of : KeptText → Option (List ℕ)
taken_of text = Some text.bytes.items

abbrev pub faults_of : KeptText → ℕ
faults_of text = text.faults

-- Since the frame began with no text, these lines were said and no others: some stand in its text, and the others wait.
pub record WasSaid (text : KeptText) (waits : List ℕ) (failed : Bool) (lines : List ℕ) : Type 0 where
  pub first : KeptText
  pub none : first.bytes.items ≡ []
  pub said : SaysTo taken_of faults_of first [] false text waits failed lines

-- BETWEEN TWO SECTIONS: so many were run, up to a place among the statements, and their lines were said.
pub record IsBetween (frame : Frame) : Type 0 where
  pub accepted : IsAccepted (tree_in frame)
  pub sections : ℕ
  pub from : ℕ
  pub ran : HasRun (tree_in frame) (table_in frame) sections from frame.book frame.progress
  pub said : WasSaid frame.text frame.progress.out false (state_at (tree_in frame) (table_in frame) from).lines
  pub written : frame.progress.failed ≡ false

-- IN A SECTION

-- its stage, and the plan that is run there
abbrev pub stage_in : FrameSection → Stage
stage_in section = stage_of section.stage

abbrev pub plan_in : FrameSection → Plan
plan_in section = (stage_in section).section.plan

-- how many helpers of it can still be had
abbrev pub places_in : FrameSection → ℕ
places_in section = length section.others.items

-- how many of its segments are run
abbrev pub segments_run : FrameSection → ℕ
segments_run section = section.at.segment

abbrev pub IsAllRun : FrameSection → Type 0
IsAllRun section = segments_run section ≡ length (plan_in section).segments.items

-- No helper of it was given out, and no turn said that it is run.
pub record IsNew (section : FrameSection) : Type 0 where
  pub alone : ¬ IsShared section.stage
  pub ended : section.ended ≡ None

-- The second one is the first, but for the places that are given out.
pub record KeepsRun (old section : FrameSection) : Type 0 where
  pub frame : section.frame ≡ old.frame
  pub stage : stage_in section ≡ stage_in old
  pub at : section.at ≡ old.at
  pub ended : section.ended ≡ old.ended

-- A section was made after so many others, which came to this place.
pub record IsAfter (frame : Frame) (stage : Stage) (sections from : ℕ) : Type 0 where
  pub accepted : IsAccepted (tree_in frame)
  pub made : IsMade (tree_in frame) (table_in frame) sections from frame.book stage.section frame.progress.report
  pub stage_is : IsStage stage
  pub written : frame.progress.failed ≡ false

-- The turns of the script's thread are over: its place is through, and all lines of the section were said.
pub record IsThrough (stage : Stage) (place : Place WordSeat) (before : KeptText) (waited : List ℕ) (text : KeptText)
    (waits : List ℕ) (end : RunEnd) : Type 0 where
  pub first : IsFirst home_of know_of (name_of stage.board) (length stage.section.plan.segments.items) place
  pub run : RunsBetween taken_of faults_of stage.section.plan (plan_lines stage.section.plan)
      before waited text waits end

-- The section is made, and is run on this stage up to one of its segments.
pub record IsUnderwayOn (stage : Stage) (section : FrameSection) : Type 0 where
  pub sections : ℕ
  pub from : ℕ
  pub after : IsAfter section.frame stage sections from
  pub room : length section.left ≡ stage.section.plan.words
  -- the places of the script's thread and of helpers
  pub stands : IsStanding home_of know_of (name_of stage.board) stage.section.plan
      section.at section.place
  pub others : All (IsReady home_of know_of (name_of stage.board)) section.others.items
  -- what was said before the section, and since
  pub before : KeptText
  pub waited : List ℕ
  pub said_before : WasSaid before waited false
      (state_at (tree_in section.frame) (table_in section.frame) from).lines
  pub said : HasSaid taken_of faults_of stage.section.plan before waited
      section.frame.text section.frame.progress.out section.at
  pub through : IfSome section.ended (IsThrough stage section.place before waited
      section.frame.text section.frame.progress.out)

abbrev pub IsUnderway : FrameSection → Type 0
IsUnderway section = IsUnderwayOn (stage_in section) section

-- All segments of a section are run, and nobody else has its stage.
pub record IsRun (frame : Frame) (stage : Stage) (place : Place WordSeat) (left : List ℤ) (end : RunEnd) : Type 0 where
  pub sections : ℕ
  pub from : ℕ
  pub after : IsAfter frame stage sections from
  pub room : length left ≡ stage.section.plan.words
  pub first : IsFirst home_of know_of (name_of stage.board) (length stage.section.plan.segments.items) place
  pub report : IsReport stage.section.plan (report_of end)
  pub said : WasSaid frame.text frame.progress.out (is_fault end)
      ((state_at (tree_in frame) (table_in frame) from).lines ++ plan_lines stage.section.plan)

-- AT THE END

-- The book knows where the contents of each name lie among these cells that stands for a container in this state.
abbrev pub AreReadable : Script → ScriptState → SectionBook → List ℤ → Type 0
AreReadable script s book cells = (name : ℕ)
    → name < length script.names
    → IsBindAt s (cells_of cells) (length cells) name (bind_in book name)

-- The last section was run, and left these cells.
pub record IsToFinish (frame : Frame) (cells : List ℤ) : Type 0 where
  pub to : ℕ
  pub last : to ≡ length (tree_in frame).statements.items
  pub report : IsReportAt (state_at (tree_in frame) (table_in frame) to) frame.progress.report
  pub said : WasSaid frame.text frame.progress.out false (state_at (tree_in frame) (table_in frame) to).lines
  pub written : frame.progress.failed ≡ false
  pub reads : AreReadable (tree_in frame) (state_at (tree_in frame) (table_in frame) to) frame.book cells

-- THE ANSWER is that of the script's meaning with its columns: the status, the text, as numbers the refused statements
-- and the traps, and what the containers hold.
pub record IsAnswer (answer : FrameAnswer) : Type 0 where
  pub status : answer.status ≡ status_of (answered_tree answer) (answered_table answer)
  pub text : answer.text.items ≡ output_of (answered_tree answer) (answered_table answer)
  pub report : IsFrameReport (state_at (answered_tree answer) (answered_table answer)
      (length (answered_tree answer).statements.items)) answer.report
  pub reads : AreReadable (answered_tree answer) (state_at (answered_tree answer) (answered_table answer)
      (length (answered_tree answer).statements.items)) answer.book answer.cells.items

-- After a section of this script comes another one of it, or its answer; or memory wasn't found.
abbrev pub EndsAs : Script → List NamedColumn → FrameEnd → Type 0
EndsAs script columns (Next frame) = IsBetween frame × (tree_in frame ≡ script) × (columns_in frame ≡ columns)
EndsAs script columns (Over answer) =
    IsAnswer answer × (answered_tree answer ≡ script) × (answered_columns answer ≡ columns)
EndsAs script columns NoMemory = Unit {0}
