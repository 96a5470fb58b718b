-- What a run with a timeline answers.
--
-- Decided here: when the status and the lines are those of the run, what its trace is of, and what becomes of it. What
-- a run answers is said in `frame_top` (`Answers`), and which sections it has (`Seen`); the text of a trace in
-- `trace_text`, and what is shown of a section in `trace_view`.
use Rattle.std.specs.Prelude.{◌≡◌, ◌⊎◌, ℕ, Bool, true, false, not, ◌&&◌, List, [], ◌∷◌, take, codes, Option, None}
use Rattle.std.specs.Io.KnownBytes.{Appends}
use Rattle.job_base.specs.Faults.{Rose}
use Rattle.frame_ast.specs.declared.script.Script.{Script}
use Rattle.command_words.specs.Words.{Text, is_of_command}
use Rattle.frame_top.specs.Answers.{AnswersTo, CanBeCut, CauseBy, Hindered, SaidTo}
use Rattle.frame_top.specs.Inputs.{Told, Reads}
use Rattle.frame_top.specs.Refusals.{Answer, answer, table_of, table_refusal}
use Rattle.frame_top.specs.Seen.{SectionAt, AreSectionsOf, has_run}
use Rattle.frame_top.specs.Words.{asks_depth, workers_in}
use Rattle.frame_top.specs.declared.status.TheConstants.{USAGE, UNWRITTEN, NO_MEMORY}
use Rattle.frame_view.specs.declared.story.Story.{Story}
use Rattle.frame_view.specs.Parts.{part_of}
use Rattle.frame_view.specs.Stories.{IsStoryIn, TellsAllIn}
use Rattle.trace_text.specs.declared.data.SectionTrace.{SectionTrace}
use Rattle.trace_text.specs.Traces.{trace_text}
use Rattle.trace_view.specs.Timelines.{IsTimelineOf}

-- THE WORDS: those of the command that runs, without `--depth`.

abbrev pub is_of_trace : List Text → Bool
is_of_trace words = is_of_command words && not (asks_depth words)

abbrev pub trace_usage_line : Text
trace_usage_line = codes
    "usage: frame_trace [--workers N] SCRIPT [TABLE] or frame_trace [--workers N] --gen NUMBER --jobs K\n"

-- WHAT A TRACE IS OF

-- What is shown of a section is the timeline of its plan, by a story of its statements that leaves none out.
pub record IsTraceOf (script : Script) (s : SectionAt) (trace : SectionTrace) : Type 0 where
  pub story : Story
  pub is_story : IsStoryIn script (part_of script s.from s.to s.held) s.section.plan story
  pub tells_all : TellsAllIn script (part_of script s.from s.to s.held) s.section.plan story
  pub timeline : IsTimelineOf script s.section.plan story trace
  pub jobs_before : trace.jobs_before ≡ s.section.jobs_before

-- one for each section, in their order
abbrev pub AreTraces : Script → List SectionAt → List SectionTrace → Type 0
AreTraces script [] [] = Unit {0}
AreTraces script [] (trace ∷ traces) = ⊥
AreTraces script (s ∷ more) [] = ⊥
AreTraces script (s ∷ more) (trace ∷ traces) = IsTraceOf script s trace × AreTraces script more traces

-- what is kept of a run of which some sections were seen, where memory for one of them may not have been found
abbrev pub HasTraced : Script → Bool → List SectionTrace → List SectionAt → Type 0
HasTraced script lost traces sections = (lost ≡ true) ⊎ AreTraces script sections traces

-- The traces are of exactly the sections of the run that the words ask for, each once, in their order.
pub record AreTracesOf (words : List Text) (told : Told) (traces : List SectionTrace) : Type 0 where
  pub script : Script
  pub table : Option Text
  pub read : Reads words told script table
  pub table_stands : table_refusal table ≡ None
  pub sections : List SectionAt
  pub are : AreSectionsOf script (table_of table) sections
  pub traced : AreTraces script sections traces

-- WHAT BECOMES OF THE TRACE

-- After a run with a status the trace of some sections was written whole, and the status stays; or a write failed after
-- some first part of it; or memory was not found, and nothing was written. `of` says which sections these are.
pub data Writes (of : List SectionTrace → Type 0) (old new : Option Text) (before now workers status result : ℕ)
    : Type 0 where
  Whole : result ≡ status → (sections : List SectionTrace) → of sections
      → Appends old new (trace_text workers sections) → now ≡ before
      → Writes of old new before now workers status result
  Part : result ≡ UNWRITTEN → (sections : List SectionTrace) → of sections → (n : ℕ)
      → Appends old new (take n (trace_text workers sections)) → Rose before now
      → Writes of old new before now workers status result
  NoRoom : result ≡ NO_MEMORY → new ≡ old → now ≡ before → Writes of old new before now workers status result

abbrev pub WritesTo : {S : Type 0} → (List SectionTrace → Type 0) → (S → Option Text) → (S → ℕ) → S → S → ℕ → ℕ → ℕ
    → Type 0
WritesTo of taken faults old new workers status result =
    Writes of (taken old) (taken new) (faults old) (faults new) workers status result

-- Where the script ran, its trace is written; else nothing is, and the status stays.
pub data Traces (of : List SectionTrace → Type 0) (old new : Option Text) (before now workers status result : ℕ)
    : Type 0 where
  AfterRun : has_run status ≡ true → Writes of old new before now workers status result
      → Traces of old new before now workers status result
  NoRun : has_run status ≡ false → result ≡ status → new ≡ old → now ≡ before
      → Traces of old new before now workers status result

abbrev pub TracesTo : {S : Type 0} → (List SectionTrace → Type 0) → (S → Option Text) → (S → ℕ) → S → S → ℕ → ℕ → ℕ
    → Type 0
TracesTo of taken faults old new workers status result =
    Traces of (taken old) (taken new) (faults old) (faults new) workers status result

-- The same by what is answered: the whole text where the script ran, some first part of one where a write failed, and
-- else nothing.
pub data IsTraced (of : List SectionTrace → Type 0) (old new : Option Text) (before now workers result : ℕ) : Type 0
  where
    IsWhole : has_run result ≡ true → (sections : List SectionTrace) → of sections
        → Appends old new (trace_text workers sections) → now ≡ before
        → IsTraced of old new before now workers result
    IsPart : result ≡ UNWRITTEN → (sections : List SectionTrace) → of sections → (n : ℕ)
        → Appends old new (take n (trace_text workers sections)) → Rose before now
        → IsTraced of old new before now workers result
    IsNone : has_run result ≡ false → new ≡ old → now ≡ before → IsTraced of old new before now workers result

abbrev pub IsTracedTo : {S : Type 0} → (List SectionTrace → Type 0) → (S → Option Text) → (S → ℕ) → S → S → ℕ → ℕ
    → Type 0
IsTracedTo of taken faults old new workers result =
    IsTraced of (taken old) (taken new) (faults old) (faults new) workers result

-- WHAT IS DUE: an answer is given, unless a read failed, one of the sinks failed or memory was wanting.
abbrev pub GivesTraced : {F L S : Type 0} → (F → ℕ) → (L → Option Text) → (L → ℕ) → (S → ℕ) → F → F → L → L → S → S
    → Answer → ℕ → Type 0
GivesTraced fails taken faults sink_faults files files' lines lines' sink sink' a result = (result ≡ a.status)
    × Appends (taken lines) (taken lines') a.text
    ⊎ Hindered (Rose (fails files) (fails files'))
    (Rose (faults lines) (faults lines') ⊎ Rose (sink_faults sink) (sink_faults sink')) result

-- HOW A COMMAND LINE ENDS: by its usage line; or with a run, whose status is handed on unless its trace couldn't be
-- written; or for want of memory, before anything was written, where the words are of the command that runs.
pub data Ends (usage of : Bool) (said : ℕ → Type 0) (ran : ℕ → Type 0) (traced : ℕ → ℕ → Type 0) (result : ℕ)
    (same : Type 0) : Type 0 where
  ByUsage : usage ≡ true → said result → same → Ends usage of said ran traced result same
  ByRun : usage ≡ false → (status : ℕ) → ran status → traced status result → Ends usage of said ran traced result same
  ByNone : of ≡ true → result ≡ NO_MEMORY → same → Ends usage of said ran traced result same

abbrev pub EndsTo : {F L S : Type 0} → (F → Told) → (F → ℕ) → (F → Option Text) → (L → Option Text) → (L → ℕ)
    → (S → Option Text) → (S → ℕ) → List Text → F → F → L → L → S → S → ℕ → Type 0
EndsTo bytes fails failed line_text line_faults taken faults words files files' lines lines' sink sink' result =
    Ends (not (is_of_trace words)) (is_of_command words)
    (λ r. SaidTo line_text line_faults lines lines' (answer USAGE trace_usage_line) r)
    (λ r. AnswersTo line_text line_faults lines lines' (CauseBy bytes fails failed words files files')
    (CanBeCut words (bytes files)) r)
    (λ status r. TracesTo (AreTracesOf words (bytes files)) taken faults sink sink' (workers_in words) status r)
    result
    ((taken sink' ≡ taken sink) × (faults sink' ≡ faults sink))
