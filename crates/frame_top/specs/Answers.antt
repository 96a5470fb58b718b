-- What a call answers, and why.
--
-- Every answer is a status and a text, and has one cause. The text is written whole, or a first part of it where the
-- sink fails, and then the status is another.
use Rattle.std.specs.Prelude.{◌≡◌, ◌⊎◌, ℕ, Bool, true, false, List, [], take, Option, None, Some}
use Rattle.std.specs.List.{list_any}
use Rattle.std.specs.Io.KnownBytes.{Appends}
use Rattle.job_base.specs.Faults.{Rose}
use Rattle.frame_core.specs.declared.plan.Plan.{Plan}
use Rattle.frame_ast.specs.declared.script.Script.{Script}
use Rattle.frame_ast.specs.Accepted.{is_when}
use Rattle.frame_ast.specs.Answers.{usage_line, no_script_line, no_table_line}
use Rattle.frame_ast.specs.Orders.{Table}
use Rattle.frame_ast.specs.Scripts.{status_of, output_of}
use Rattle.job_depth.specs.declared.report.Depth.{Depth}
use Rattle.job_depth.specs.Depths.{IsDepthOf}
use Rattle.job_depth.specs.Texts.{depth_text}
use Rattle.frame_plan.specs.Sections.{IsPlanOf}
use Rattle.command_words.specs.Words.{Text, is_of_command}
use Rattle.frame_top.specs.Words.{script_name, table_name, workers_in, asks_depth}
use Rattle.frame_top.specs.Inputs.{Told, ReadsSource, ReadsScript, Reads, IsGiven, IsUnread}
use Rattle.frame_top.specs.Refusals.{Answer, answer, Refuses, table_refusal, table_of, frame_refusal}
use Rattle.frame_top.specs.declared.status.TheConstants.{DONE, USAGE, UNREAD, UNWRITTEN, NO_MEMORY}

-- CAUSES

-- The text is the report of how deep the script's plan is for so many workers.
pub record IsDepthReport (script : Script) (table : Table) (workers : ℕ) (text : Text) : Type 0 where
  pub plan : Plan
  pub is_plan : IsPlanOf script table plan
  pub depth : Depth
  pub is_depth : IsDepthOf plan workers depth
  pub text_is : text ≡ depth_text depth

-- What a script and its table answer: they are refused, or run, or only their depth is reported.
pub data FrameCause (script : Script) (table : Table) (depth : Bool) (workers : ℕ) (a : Answer) : Type 0 where
  Refused : frame_refusal script table depth ≡ Some a → FrameCause script table depth workers a
  Ran : frame_refusal script table depth ≡ None → depth ≡ false
      → a ≡ answer (status_of script table) (output_of script table) → FrameCause script table depth workers a
  Reported : frame_refusal script table depth ≡ None → depth ≡ true → (text : Text)
      → IsDepthReport script table workers text → a ≡ answer DONE text → FrameCause script table depth workers a

-- What is answered, and why. Here `told` has the bytes of each name, where told, `risen` says that a read failed, and
-- `failed` is the name of the last read that failed.
pub data Cause (words : List Text) (told : Told) (risen : Type 0) (failed : Option Text) (a : Answer) : Type 0 where
  Usage : is_of_command words ≡ false → a ≡ answer USAGE usage_line → Cause words told risen failed a
  NoScript : is_of_command words ≡ true → IsUnread risen failed (script_name words)
      → a ≡ answer UNREAD no_script_line → Cause words told risen failed a
  BadScript : (source : Text) → ReadsSource words told source → Refuses source a → Cause words told risen failed a
  NoTable : (script : Script) → ReadsScript words told script → IsUnread risen failed (table_name words)
      → a ≡ answer UNREAD no_table_line → Cause words told risen failed a
  BadTable : (script : Script) (table : Option Text) → Reads words told script table
      → table_refusal table ≡ Some a → Cause words told risen failed a
  OfFrame : (script : Script) (table : Option Text) → Reads words told script table → table_refusal table ≡ None
      → FrameCause script (table_of table) (asks_depth words) (workers_in words) a → Cause words told risen failed a

-- the same, of what the files say
abbrev pub CauseBy : {F : Type 0} → (F → Told) → (F → ℕ) → (F → Option Text) → List Text → F → F → Answer → Type 0
CauseBy bytes faults failed words old new a = Cause words (bytes old) (Rose (faults old) (faults new)) (failed new) a

-- WHAT BECOMES OF AN ANSWER

-- All of its text was taken, or the sink failed after a first part of it.
pub data Said (old new : Option Text) (before now : ℕ) (a : Answer) (result : ℕ) : Type 0 where
  Whole : result ≡ a.status → Appends old new a.text → now ≡ before → Said old new before now a result
  Part : result ≡ UNWRITTEN → (n : ℕ) → Appends old new (take n a.text) → Rose before now
      → Said old new before now a result

-- the same, of what a sink says that it took and counted
abbrev pub SaidTo : {S : Type 0} → (S → Option Text) → (S → ℕ) → S → S → Answer → ℕ → Type 0
SaidTo taken faults old new a result = Said (taken old) (taken new) (faults old) (faults new) a result

-- An answer was said; or memory was wanting before the first byte; or it was wanting after some part of a text that may
-- be cut.
pub data Answers (cause : Answer → Type 0) (cut : Text → Type 0) (old new : Option Text) (before now : ℕ)
    (result : ℕ) : Type 0 where
  Caused : (a : Answer) → cause a → Said old new before now a result → Answers cause cut old new before now result
  Early : result ≡ NO_MEMORY → Appends old new [] → now ≡ before → Answers cause cut old new before now result
  Midway : result ≡ NO_MEMORY → (text : Text) → cut text → (n : ℕ) → Appends old new (take n text) → now ≡ before
      → Answers cause cut old new before now result

abbrev pub AnswersTo : {S : Type 0} → (S → Option Text) → (S → ℕ) → S → S → (Answer → Type 0) → (Text → Type 0) → ℕ
    → Type 0
AnswersTo taken faults old new cause cut result =
    Answers cause cut (taken old) (taken new) (faults old) (faults new) result

-- WHICH TEXTS MAY BE CUT where memory is wanting: the output of a script with a `when`, whose later sections are made
-- after lines of earlier ones were written.

abbrev pub has_when : Script → Bool
has_when script = list_any (λ x. is_when x.act) script.statements.items

pub record IsCut (script : Script) (table : Table) (depth : Bool) (text : Text) : Type 0 where
  pub accepted : frame_refusal script table depth ≡ None
  pub run : depth ≡ false
  pub tested : has_when script ≡ true
  pub output : text ≡ output_of script table

-- the same of what the words ask for
pub record CanBeCut (words : List Text) (told : Told) (text : Text) : Type 0 where
  pub script : Script
  pub table : Option Text
  pub read : Reads words told script table
  pub table_stands : table_refusal table ≡ None
  pub cut : IsCut script (table_of table) (asks_depth words) text

-- WHAT IS DUE

-- The words ask for a script and a table that are accepted, whose bytes are told.
pub record IsFrame (words : List Text) (told : Told) (script : Script) (table : Option Text) : Type 0 where
  pub given : IsGiven words told script table
  pub table_stands : table_refusal table ≡ None
  pub accepted : frame_refusal script (table_of table) (asks_depth words) ≡ None

-- What keeps an answer from being given: a read failed, the sink failed, or memory was wanting.
pub data Hindered (unread untaken : Type 0) (result : ℕ) : Type 0 where
  NotRead : result ≡ UNREAD → unread → Hindered unread untaken result
  NotTaken : result ≡ UNWRITTEN → untaken → Hindered unread untaken result
  NotFound : result ≡ NO_MEMORY → Hindered unread untaken result

-- An answer is given, unless it was hindered.
abbrev pub Gives : {F S : Type 0} → (F → ℕ) → (S → Option Text) → (S → ℕ) → F → F → S → S → Answer → ℕ → Type 0
Gives fails taken faults files files' sink sink' a result = (result ≡ a.status)
    × Appends (taken sink) (taken sink') a.text
    ⊎ Hindered (Rose (fails files) (fails files')) (Rose (faults sink) (faults sink')) result

-- A report of the depth is given, unless it was hindered.
abbrev pub GivesDepth : {F S : Type 0} → (F → ℕ) → (S → Option Text) → (S → ℕ) → F → F → S → S
    → List Text → Told → ℕ → Type 0
GivesDepth fails taken faults files files' sink sink' words told result =
    ((script : Script) × (table : Option Text) × (text : Text) × Reads words told script table
    × IsDepthReport script (table_of table) (workers_in words) text
    × (result ≡ DONE) × Appends (taken sink) (taken sink') text)
    ⊎ Hindered (Rose (fails files) (fails files')) (Rose (faults sink) (faults sink')) result

-- WHAT WAS TAKEN OF A TEXT THAT WASN'T WRITTEN WHOLE

-- some first bytes of the text of an answer that has its cause
abbrev pub TakesPart : {S : Type 0} → (S → Option Text) → S → S → (Answer → Type 0) → Type 0
TakesPart taken old new cause = (a : Answer) × cause a × ((n : ℕ) × Appends (taken old) (taken new) (take n a.text))

-- some first bytes of a text that may be cut
abbrev pub TakesCut : {S : Type 0} → (S → Option Text) → S → S → (Text → Type 0) → Type 0
TakesCut taken old new cut = (text : Text) × cut text × ((n : ℕ) × Appends (taken old) (taken new) (take n text))
