-- What the calls on handles leave in them, and what they answer.
--
-- Each definition goes by what the handles have before the call. Where that isn't what the call is for, it answers so,
-- and nothing is changed. What a frame comes to is the script's meaning with its columns, whatever threads took which
-- turns in what order: none of it says who did.
use Rattle.std.specs.Prelude.{◌≡◌, ◌⊎◌, ◌+◌, ◌<◌, ℕ, ℤ, false, List, [], ◌∷◌, ◌++◌, length, take, slice_get, Option, None, Some, IsSome, IsTrue, IsFalse}
use Rattle.job_base.specs.declared.limits.TheConstants.{MOST_SCRIPT_BYTES}
use Rattle.job_base.specs.declared.Trap.{Trap}
use Rattle.job_base.specs.declared.Trap.TheVariants as trap
use Rattle.frame_ast.specs.declared.kernel.FaultKind.{FaultKind}
use Rattle.frame_ast.specs.declared.script.Script.{Script}
use Rattle.frame_ast.specs.Scripts.{output_of, status_of}
use Rattle.frame_ast.specs.States.{JobTrap, ScriptState}
use Rattle.frame_script.specs.Loading.{IsRefused}
use Rattle.plan_state.specs.Steps.{state_at}
use Rattle.plan_statements.specs.Tables.{columns_of}
use Rattle.table_in.specs.Columns.{NamedColumn}
use Rattle.frame_top.specs.Inputs.{Accepts}
use Rattle.frame_top.specs.Refusals.{Answer, frame_refusal}
use Rattle.frame_top.specs.declared.status.TheConstants.{DONE, NO_MEMORY, PAST_LIMIT, SCRIPT_REFUSED, UNWRITTEN}
use Rattle.frame_stage.specs.declared.helper.FrameHelper.{FrameHelper}
use Rattle.frame_stage.specs.Stages.{IsShared as HasHelpers, SeesAll, places_for, stage_of_part}
use Rattle.frame_host.specs.declared.frame.Frame.{Frame}
use Rattle.frame_host.specs.declared.section.FrameSection.{FrameSection}
use Rattle.frame_host.specs.Frames.{IsAllRun, IsNew, KeepsRun, answered_columns, answered_table, answered_tree, columns_in, places_in, plan_in, segments_run, stage_in, table_in, tree_in}
use Rattle.frame_host.specs.Reading.{numbers_named}
use Rattle.frame_host.specs.Scripts.{tree_of}
use Rattle.frame_calls.specs.declared.held.Held.{Held}
use Rattle.frame_calls.specs.declared.held.Held.TheVariants.{Read, Between, Underway, Answered, Helping}
use Rattle.frame_calls.specs.declared.answering.HostReport.{HostReport}
use Rattle.frame_calls.specs.declared.status.TheConstants.{AGAIN, BUSY, IDLE, NEXT, NONE, NOT_NOW, OVER}
use Rattle.frame_calls.specs.Holding.{columns_held}

-- The call isn't one for what the handle has: it is as it was.
abbrev pub IsNotNow : Option Held → ℕ → Option Held → Type 0
IsNotNow old status new = (new ≡ old) × (status ≡ NOT_NOW)

-- SCRIPTS

-- The handle has the script of these bytes. Where it has none, memory wasn't found, or the bytes are too many, or they
-- are refused for a token of that line.
abbrev pub IsOpened : List ℕ → ℕ → ℕ → Option Held → Type 0
IsOpened source line status (Some (Read script)) = (status ≡ DONE) × Accepts source (tree_of script)
IsOpened source line status None = (status ≡ NO_MEMORY)
    ⊎ ((status ≡ PAST_LIMIT) × (MOST_SCRIPT_BYTES < length source)
    ⊎ (status ≡ SCRIPT_REFUSED) × ((kind : FaultKind) × IsRefused source line kind))
IsOpened source line status _ = ⊥

-- into an empty handle
abbrev pub Opens : List ℕ → Option Held → ℕ → ℕ → Option Held → Type 0
Opens source None line status new = IsOpened source line status new
Opens source old line status new = IsNotNow old status new

-- the same script in another handle
abbrev pub IsShared : Script → ℕ → Option Held → Type 0
IsShared tree status (Some (Read script)) = (status ≡ DONE) × (tree_of script ≡ tree)
IsShared tree status None = status ≡ NO_MEMORY
IsShared tree status _ = ⊥

abbrev pub Shares : Option Held → Option Held → ℕ → Option Held → Type 0
Shares (Some (Read script)) None status new = IsShared (tree_of script) status new
Shares _ old status new = IsNotNow old status new

-- ARRAYS

-- one array more, after those that the handle has
abbrev pub IsAdded : List NamedColumn → List ℕ → List ℤ → ℕ → Option Held → Type 0
IsAdded columns name values status new =
    (status ≡ DONE) × (columns_held new ≡ Some (columns ++ record { name = name; values = values } ∷ []))
    ⊎ (status ≡ NO_MEMORY) × (new ≡ None)

abbrev pub AddsTo : List ℕ → List ℤ → Option (List NamedColumn) → Option Held → ℕ → Option Held → Type 0
AddsTo name values None old status new = IsNotNow old status new
AddsTo name values (Some columns) old status new = IsAdded columns name values status new

abbrev pub Adds : List ℕ → List ℤ → Option Held → ℕ → Option Held → Type 0
Adds name values old status new = AddsTo name values (columns_held old) old status new

-- FRAMES

-- The handle has a frame of this script with these columns. Where it has none, memory wasn't found, or the script is
-- refused with its columns, as `frame_run` refuses it.
abbrev pub IsBegun : Script → List NamedColumn → ℕ → Option Held → Type 0
IsBegun tree columns status (Some (Between frame)) =
    (status ≡ DONE) × (tree_in frame ≡ tree) × (columns_in frame ≡ columns)
IsBegun tree columns status None = (status ≡ NO_MEMORY)
    ⊎ ((a : Answer) × (frame_refusal tree (columns_of columns) false ≡ Some a) × (status ≡ a.status))
IsBegun tree columns status _ = ⊥

-- The columns go to the frame, or are given up with it.
abbrev pub BeginsWith : Script → Option (List NamedColumn) → Option Held → ℕ → Option Held → Option Held → Type 0
BeginsWith tree None old status frame columns = (columns ≡ old) × IsNotNow None status frame
BeginsWith tree (Some table) old status frame columns = (columns ≡ None) × IsBegun tree table status frame

abbrev pub Begins : Option Held → Option Held → Option Held → ℕ → Option Held → Option Held → Type 0
Begins None (Some (Read script)) old_columns status frame columns =
    BeginsWith (tree_of script) (columns_held old_columns) old_columns status frame columns
Begins old_frame script old_columns status frame columns =
    (columns ≡ old_columns) × IsNotNow old_frame status frame

-- The next section of a frame is made, with so many places for helpers. Without memory the frame is given up.
abbrev pub IsMadeOf : Frame → ℕ → ℕ → Option Held → Type 0
IsMadeOf frame helpers status (Some (Underway section)) = (status ≡ DONE)
    × (tree_in section.frame ≡ tree_in frame)
    × (columns_in section.frame ≡ columns_in frame)
    × (places_in section ≡ places_for (plan_in section) helpers)
    × IsNew section
IsMadeOf frame helpers status None = status ≡ NO_MEMORY
IsMadeOf frame helpers status _ = ⊥

abbrev pub Makes : Option Held → ℕ → ℕ → Option Held → Type 0
Makes (Some (Between frame)) helpers status new = IsMadeOf frame helpers status new
Makes old helpers status new = IsNotNow old status new

-- A turn leaves the frame its script and columns, and the section its stage and its places. It runs one segment at
-- most, and where all are run they stay so.
pub record IsTurnOf (old section : FrameSection) : Type 0 where
  pub script : tree_in section.frame ≡ tree_in old.frame
  pub columns : columns_in section.frame ≡ columns_in old.frame
  pub stage : section.stage ≡ old.stage
  pub places : places_in section ≡ places_in old
  pub next : (segments_run section ≡ segments_run old) ⊎ (segments_run section ≡ segments_run old + 1)
  pub always : IsAllRun old → IsAllRun section

-- It says that the section is over exactly where all segments are run. Only then can the section end.
abbrev pub IsTurned : FrameSection → ℕ → Option Held → Type 0
IsTurned old status (Some (Underway section)) = IsTurnOf old section
    × ((status ≡ OVER) × IsAllRun section × IsSome section.ended ⊎ (status ≡ AGAIN) × ¬ IsAllRun section)
IsTurned old status _ = ⊥

abbrev pub Turns : Option Held → ℕ → Option Held → Type 0
Turns (Some (Underway section)) status new = IsTurned section status new
Turns old status new = IsNotNow old status new

-- The end of a section of which a turn said that it is over: another one follows, or the script's answer; or memory
-- wasn't found, and the frame is given up. Or the section is as it was: no turn said so, or a helper of it was given
-- out.
abbrev pub IsEnded : FrameSection → ℕ → Option Held → Type 0
IsEnded old status (Some (Between frame)) = IsSome old.ended
    × (status ≡ NEXT)
    × (tree_in frame ≡ tree_in old.frame)
    × (columns_in frame ≡ columns_in old.frame)
IsEnded old status (Some (Answered answer)) = IsSome old.ended
    × (status ≡ status_of (tree_in old.frame) (table_in old.frame))
    × (answered_tree answer ≡ tree_in old.frame)
    × (answered_columns answer ≡ columns_in old.frame)
IsEnded old status (Some (Underway section)) =
    (status ≡ BUSY) × (section ≡ old) × ((old.ended ≡ None) ⊎ HasHelpers old.stage)
IsEnded old status None = IsSome old.ended × (status ≡ NO_MEMORY)
IsEnded old status _ = ⊥

abbrev pub Ends : Option Held → ℕ → Option Held → Type 0
Ends (Some (Underway section)) status new = IsEnded section status new
Ends old status new = IsNotNow old status new

-- HELPERS

-- A helper of the section, which has one place less; or no place is left, and nothing is changed; or memory wasn't
-- found, and the place is left.
abbrev pub IsHanded : FrameSection → ℕ → FrameSection → Option Held → Type 0
IsHanded old status section (Some (Helping helper)) = (status ≡ DONE)
    × (stage_of_part helper.stage ≡ stage_in old)
    × (places_in old ≡ places_in section + 1)
IsHanded old status section None = (status ≡ NONE) × (places_in old ≡ 0) × (section ≡ old)
    ⊎ (status ≡ NO_MEMORY) × (0 < places_in old) × (places_in section ≡ places_in old)
IsHanded old status section _ = ⊥

-- the section is run on as before
abbrev pub HandsOutOf : FrameSection → ℕ → Option Held → Option Held → Type 0
HandsOutOf old status (Some (Underway section)) helper = KeepsRun old section × IsHanded old status section helper
HandsOutOf old status _ helper = ⊥

abbrev pub HandsOut : Option Held → Option Held → ℕ → Option Held → Option Held → Type 0
HandsOut (Some (Underway section)) None status frame helper = HandsOutOf section status frame helper
HandsOut old_frame old_helper status frame helper = (frame ≡ old_frame) × IsNotNow old_helper status helper

-- A turn of a helper, which stays one of its section. It says that the section is over only where its seat has seen
-- each job of the section finished, and then nothing changes any more.
abbrev pub IsHelped : FrameHelper → ℕ → Option Held → Type 0
IsHelped old status (Some (Helping helper)) = (helper.stage ≡ old.stage)
    × (IsTrue old.over → helper ≡ old)
    × ((status ≡ OVER) × IsTrue helper.over × SeesAll (stage_of_part helper.stage).section.plan helper.place
    ⊎ ((status ≡ AGAIN) ⊎ (status ≡ IDLE)) × IsFalse helper.over)
IsHelped old status _ = ⊥

abbrev pub Helps : Option Held → ℕ → Option Held → Type 0
Helps (Some (Helping helper)) status new = IsHelped helper status new
Helps old status new = IsNotNow old status new

-- ANSWERS. The handle is as it was.

-- The first `len` items of a buffer are these; or these, `len` items, are more than the buffer has, which has the first
-- of them.
pub data IsLeft {A : Type 0} (items out : List A) (len status : ℕ) : Type 0 where
  Whole : status ≡ DONE → len ≡ length items → take len out ≡ items → IsLeft items out len status
  Short : status ≡ UNWRITTEN → len ≡ length items → length out < len → out ≡ take (length out) items
      → IsLeft items out len status

abbrev pub IsRead : Option (List ℤ) → List ℤ → ℕ → ℕ → Type 0
IsRead None out len status = status ≡ NONE
IsRead (Some items) out len status = IsLeft items out len status

-- what the container of a name holds in the script's final state
abbrev pub Reads : Option Held → List ℕ → List ℤ → ℕ → ℕ → Type 0
Reads (Some (Answered answer)) name out len status =
    IsRead (numbers_named (answered_tree answer) (answered_table answer) name) out len status
Reads _ name out len status = status ≡ NOT_NOW

-- what the script prints
abbrev pub Prints : Option Held → List ℕ → ℕ → ℕ → Type 0
Prints (Some (Answered answer)) out len status =
    IsLeft (output_of (answered_tree answer) (answered_table answer)) out len status
Prints _ out len status = status ≡ NOT_NOW

-- what stands for a trap
abbrev pub trap_number : Trap → ℕ
trap_number trap.Overflow = 1
trap_number trap.ZeroDivisor = 2
trap_number trap.Range = 3
trap_number trap.OwnIndex = 4
trap_number trap.Full = 5
trap_number trap.MissingKey = 6
trap_number trap.PresentKey = 7
trap_number trap.Written = 8
trap_number trap.Budget = 9

-- the first trap, or zeros where there is none
abbrev pub IsFirst : HostReport → Option JobTrap → Type 0
IsFirst report None = (report.job ≡ 0) × (report.index ≡ 0) × (report.trap ≡ 0)
IsFirst report (Some t) = (report.job ≡ t.job) × (report.index ≡ t.index) × (report.trap ≡ trap_number t.trap)

-- the refused statements and the traps of a state
pub record IsReported (s : ScriptState) (report : HostReport) : Type 0 where
  pub refused : report.refused ≡ s.refused
  pub traps : report.traps ≡ length s.traps
  pub first : IsFirst report (slice_get s.traps 0)

abbrev pub Reports : Option Held → HostReport → ℕ → Type 0
Reports (Some (Answered answer)) report status = (status ≡ DONE)
    × IsReported (state_at (answered_tree answer) (answered_table answer)
    (length (answered_tree answer).statements.items)) report
Reports _ report status = status ≡ NOT_NOW
