-- When a picture is due, and when a refusal.
--
-- Decided here: for what a frame isn't drawn, and what is said then. In which order the work is done is said in
-- `frame_top` (`Refusals`): it is that of a run.
use Rattle.std.specs.Prelude.{◌≡◌, ◌⊎◌, ◌++◌, ℕ, true, false, List, codes, Option, None, Some}
use Rattle.std.specs.Io.KnownBytes.{Appends}
use Rattle.job_base.specs.Faults.{Rose}
use Rattle.frame_ast.specs.declared.script.Script.{Script}
use Rattle.frame_ast.specs.Answers.{no_script_line, no_table_line}
use Rattle.frame_ast.specs.Orders.{Table}
use Rattle.command_words.specs.Words.{Text, is_of_command}
use Rattle.graph_words.specs.GraphWords.{is_of_graph, plain_words}
use Rattle.frame_top.specs.Answers.{Hindered, Said}
use Rattle.frame_top.specs.Inputs.{Told, IsGiven, IsUnread, Reads, ReadsScript, ReadsSource}
use Rattle.frame_top.specs.Refusals.{Answer, answer, Refuses, frame_refusal, table_of, table_refusal}
use Rattle.frame_top.specs.Words.{script_name, table_name}
use Rattle.frame_top.specs.declared.status.TheConstants.{DONE, USAGE, UNREAD, UNWRITTEN, NO_MEMORY}

abbrev pub graph_usage_line : Text
graph_usage_line =
    codes "usage: frame_graph [--workers N] [--dot] SCRIPT [TABLE] or frame_graph [--workers N] [--dot] --gen NUMBER"
    ++ codes " --jobs K\n"

-- WHAT IS DUE

-- The words, without the flag, ask for a script and a table whose bytes are told, and these are accepted.
pub record IsDrawable (words : List Text) (told : Told) (script : Script) (table : Option Text) : Type 0 where
  pub of_graph : is_of_graph words ≡ true
  pub given : IsGiven (plain_words words) told script table
  pub table_stands : table_refusal table ≡ None
  pub accepted : frame_refusal script (table_of table) false ≡ None

-- The text of a refusal is given, unless a read failed, a sink failed or memory was wanting.
abbrev pub GivesNote : {F S E : Type 0} → (F → ℕ) → (S → ℕ) → (E → Option Text) → (E → ℕ) → F → F → S → S → E → E
    → Answer → ℕ → Type 0
GivesNote fails faults text counts files files' sink sink' notes notes' a result = (result ≡ a.status)
    × Appends (text notes) (text notes') a.text
    ⊎ Hindered (Rose (fails files) (fails files'))
    (Rose (counts notes) (counts notes') ⊎ Rose (faults sink) (faults sink')) result

-- A picture is given, unless a read failed, a sink failed or memory was wanting.
abbrev pub GivesPicture : {F S E : Type 0} → (F → ℕ) → (S → ℕ) → (E → ℕ) → F → F → S → S → E → E → ℕ → Type 0
GivesPicture fails faults counts files files' sink sink' notes notes' result = (result ≡ DONE)
    ⊎ Hindered (Rose (fails files) (fails files'))
    (Rose (counts notes) (counts notes') ⊎ Rose (faults sink) (faults sink')) result

-- FOR WHAT A FRAME ISN'T DRAWN, before script and table are looked at together
pub data Reason (words : List Text) (told : Told) (risen : Type 0) (failed : Option Text) (a : Answer) : Type 0 where
  NoScript : is_of_command words ≡ true → IsUnread risen failed (script_name words)
      → a ≡ answer UNREAD no_script_line → Reason words told risen failed a
  BadScript : (source : Text) → ReadsSource words told source → Refuses source a → Reason words told risen failed a
  NoTable : (script : Script) → ReadsScript words told script → IsUnread risen failed (table_name words)
      → a ≡ answer UNREAD no_table_line → Reason words told risen failed a
  BadTable : (script : Script) (table : Option Text) → Reads words told script table
      → table_refusal table ≡ Some a → Reason words told risen failed a

-- a picture was shown, or a write failed
abbrev pub IsShown : Type 0 → ℕ → Type 0
IsShown untaken result = (result ≡ DONE) ⊎ (result ≡ UNWRITTEN) × untaken

-- How a script and its table end: they are refused, or shown, or memory was wanting.
pub data FrameEnds (script : Script) (table : Table) (old new : Option Text) (before now : ℕ) (untaken : Type 0)
    (result : ℕ) : Type 0 where
  FrameRefused : (a : Answer) → frame_refusal script table false ≡ Some a → Said old new before now a result
      → FrameEnds script table old new before now untaken result
  FrameShown : frame_refusal script table false ≡ None → IsShown untaken result
      → FrameEnds script table old new before now untaken result
  FrameWanting : result ≡ NO_MEMORY → FrameEnds script table old new before now untaken result

-- How a command ends.
pub data CommandEnds (words : List Text) (told : Told) (risen : Type 0) (failed : Option Text) (old new : Option Text)
    (before now : ℕ) (untaken : Type 0) (result : ℕ) : Type 0 where
  ByReason : (a : Answer) → Reason words told risen failed a → Said old new before now a result
      → CommandEnds words told risen failed old new before now untaken result
  ByFrame : (script : Script) (table : Option Text) → Reads words told script table → table_refusal table ≡ None
      → FrameEnds script (table_of table) old new before now untaken result
      → CommandEnds words told risen failed old new before now untaken result
  Wanting : result ≡ NO_MEMORY → CommandEnds words told risen failed old new before now untaken result

-- How a command line ends.
pub data GraphEnds (words : List Text) (told : Told) (risen : Type 0) (failed : Option Text) (old new : Option Text)
    (before now : ℕ) (untaken : Type 0) (result : ℕ) : Type 0 where
  ByUsage : is_of_graph words ≡ false → Said old new before now (answer USAGE graph_usage_line) result
      → GraphEnds words told risen failed old new before now untaken result
  ByCommand : is_of_graph words ≡ true
      → CommandEnds (plain_words words) told risen failed old new before now untaken result
      → GraphEnds words told risen failed old new before now untaken result
  ByNone : is_of_graph words ≡ true → result ≡ NO_MEMORY
      → GraphEnds words told risen failed old new before now untaken result

abbrev pub FrameEndsTo : {S E : Type 0} → (S → ℕ) → (E → Option Text) → (E → ℕ) → S → S → E → E → Script → Table → ℕ
    → Type 0
FrameEndsTo faults text counts sink sink' notes notes' script table result =
    FrameEnds script table (text notes) (text notes') (counts notes) (counts notes')
    (Rose (counts notes) (counts notes') ⊎ Rose (faults sink) (faults sink')) result

abbrev pub CommandEndsTo : {F S E : Type 0} → (F → Told) → (F → ℕ) → (F → Option Text) → (S → ℕ) → (E → Option Text)
    → (E → ℕ) → F → F → S → S → E → E → List Text → ℕ → Type 0
CommandEndsTo bytes fails failed faults text counts files files' sink sink' notes notes' words result =
    CommandEnds words (bytes files) (Rose (fails files) (fails files')) (failed files') (text notes) (text notes')
    (counts notes) (counts notes') (Rose (counts notes) (counts notes') ⊎ Rose (faults sink) (faults sink')) result

abbrev pub GraphEndsTo : {F S E : Type 0} → (F → Told) → (F → ℕ) → (F → Option Text) → (S → ℕ) → (E → Option Text)
    → (E → ℕ) → F → F → S → S → E → E → List Text → ℕ → Type 0
GraphEndsTo bytes fails failed faults text counts files files' sink sink' notes notes' words result =
    GraphEnds words (bytes files) (Rose (fails files) (fails files')) (failed files') (text notes) (text notes')
    (counts notes) (counts notes') (Rose (counts notes) (counts notes') ⊎ Rose (faults sink) (faults sink')) result
