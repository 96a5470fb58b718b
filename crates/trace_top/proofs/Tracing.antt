-- A run's answer, and what its trace makes of it.
use Rattle.std.proofs.Common.{◌≡◌, ◌⊎◌, inl, inr, refl, sym, ap, ◌∙◌, subst, ◌↔◌, Result, Ok, Err, ℕ, ◌≤◌, Bool, true, false, ◌&&◌, not, List, [], ◌∷◌, ◌++◌, length, Option, None, Some, arith}
use Rattle.std.specs.Prelude.{IfOk}
use Rattle.std.specs.Io.KnownBytes.{Appends}
use Rattle.job_base.specs.Faults.{Rose}
use Rattle.job_base.specs.declared.NoMemory.{NoMemory as NoRoomLeft}
use Rattle.frame_ast.specs.declared.script.Script.{Script}
use Rattle.command_words.specs.declared.command.WordsFault.{WordsFault}
use Rattle.command_words.specs.declared.command.WordsFault.TheVariants.{Usage, NoMemory}
use Rattle.command_words.specs.Words.{Text, is_of_command}
use Rattle.frame_top.specs.Answers.{Said, Whole as SaidWhole, Part as SaidPart, Hindered, NotRead, NotTaken, NotFound}
use Rattle.frame_top.specs.Refusals.{Answer, answer}
use Rattle.frame_top.specs.Words.{asks_depth}
use Rattle.frame_top.specs.declared.status.TheConstants.{USAGE, UNWRITTEN, NO_MEMORY}
use Rattle.frame_top.specs.Inputs.{Told}
use Rattle.frame_top.specs.Seen.{SectionAt, HasSeenAsked, has_run}
use Rattle.frame_view.specs.declared.part.Part.{Part as Statements}
use Rattle.frame_view.specs.declared.story.Story.{Story}
use Rattle.frame_view.specs.Parts.{part_of}
use Rattle.frame_view.specs.Stories.{IsStoryIn, TellsAllIn}
use Rattle.trace_text.specs.declared.data.SectionTrace.{SectionTrace}
use Rattle.trace_view.specs.Timelines.{IsTimelineOf}
use Rattle.trace_top.specs.Traced.{is_of_trace, IsTraceOf, AreTraces, HasTraced, AreTracesOf, Writes, Whole, Part, NoRoom, Traces, AfterRun, NoRun, IsTraced, IsWhole, IsPart, IsNone, Ends, ByUsage, ByRun, ByNone}

-- THE WORDS

and_false : (a : Bool) → (a && false) ≡ false
and_false true = refl
and_false false = refl

pub is_traced : (words : List Text) → is_of_command words ≡ true → asks_depth words ≡ false → not (is_of_trace words) ≡ false
is_traced words p q = ap (λ a. not (a && not (asks_depth words))) p ∙ ap (λ d. not (not d)) q

pub not_of_command : (words : List Text) → is_of_command words ≡ false → not (is_of_trace words) ≡ true
not_of_command words p = ap (λ a. not (a && not (asks_depth words))) p

pub asks_other : (words : List Text) → asks_depth words ≡ true → not (is_of_trace words) ≡ true
asks_other words q = ap (λ d. not (is_of_command words && not d)) q ∙ ap not (and_false (is_of_command words))

not_of_trace : (words : List Text) → is_of_trace words ≡ false → not (is_of_trace words) ≡ true
not_of_trace words p = ap not p

differ : (b : Bool) → b ≡ true → b ≡ false → ⊥
differ b p q = cc

-- WHAT IS DUE

-- the status of the run stays, and so does what it gives
stay : (a : Answer) (unread : Type 0) (lines lines' : Option Text) (untaken more : Type 0) (status result : ℕ) → result ≡ status
    → (status ≡ a.status) × Appends lines lines' a.text ⊎ Hindered unread untaken status
    → (result ≡ a.status) × Appends lines lines' a.text ⊎ Hindered unread (untaken ⊎ more) result
stay a unread lines lines' untaken more status result is (inl p) = inl (is ∙ p.0, p.1)
stay a unread lines lines' untaken more status result is (inr (NotRead e u)) = inr (NotRead (is ∙ e) u)
stay a unread lines lines' untaken more status result is (inr (NotTaken e u)) = inr (NotTaken (is ∙ e) (inl u))
stay a unread lines lines' untaken more status result is (inr (NotFound e)) = inr (NotFound (is ∙ e))

pub traced_gives : (a : Answer) (unread : Type 0) (lines lines' : Option Text) (untaken : Type 0) (of : List SectionTrace → Type 0)
    (old new : Option Text) (before now workers status result : ℕ)
    → (status ≡ a.status) × Appends lines lines' a.text ⊎ Hindered unread untaken status
    → Traces of old new before now workers status result
    → (result ≡ a.status) × Appends lines lines' a.text ⊎ Hindered unread (untaken ⊎ Rose before now) result
traced_gives a unread lines lines' untaken of old new before now workers status result given (AfterRun h (Whole is sections these app same)) =
    stay a unread lines lines' untaken (Rose before now) status result is given
traced_gives a unread lines lines' untaken of old new before now workers status result given (AfterRun h (Part is sections these n app rose)) =
    inr (NotTaken is (inr rose))
traced_gives a unread lines lines' untaken of old new before now workers status result given (AfterRun h (NoRoom is o e)) = inr (NotFound is)
traced_gives a unread lines lines' untaken of old new before now workers status result given (NoRun h is o e) =
    stay a unread lines lines' untaken (Rose before now) status result is given

-- the usage line
pub usage_gives : (a : Answer) (unread : Type 0) (lines lines' : Option Text) (b n : ℕ) (more : Type 0) (result : ℕ)
    → Said lines lines' b n a result
    → (result ≡ a.status) × Appends lines lines' a.text ⊎ Hindered unread (Rose b n ⊎ more) result
usage_gives a unread lines lines' b n more result (SaidWhole is app same) = inl (is, app)
usage_gives a unread lines lines' b n more result (SaidPart is k app rose) = inr (NotTaken is (inl rose))

-- by a run
pub by_run : (usage of : Bool) (said ran : ℕ → Type 0) (traced : ℕ → ℕ → Type 0) (result : ℕ) (same goal : Type 0)
    → usage ≡ false → ((status : ℕ) → ran status → traced status result → goal) → (result ≡ NO_MEMORY → goal)
    → Ends usage of said ran traced result same → goal
by_run usage of said ran traced result same goal free run none (ByUsage u s e) = absurd (differ usage u free)
by_run usage of said ran traced result same goal free run none (ByRun u status r t) = run status r t
by_run usage of said ran traced result same goal free run none (ByNone o n e) = none n

-- by the usage line
pub by_usage : (words : List Text) (of : Bool) (said ran : ℕ → Type 0) (traced : ℕ → ℕ → Type 0) (result : ℕ) (same goal : Type 0)
    → is_of_trace words ≡ false → (said result → goal) → (result ≡ NO_MEMORY → goal)
    → Ends (not (is_of_trace words)) of said ran traced result same → goal
by_usage words of said ran traced result same goal other say none (ByUsage u s e) = say s
by_usage words of said ran traced result same goal other say none (ByRun u status r t) = absurd (differ (not (is_of_trace words)) (not_of_trace words other) u)
by_usage words of said ran traced result same goal other say none (ByNone o n e) = none n

-- THE TRACE

pub traced_is : (of : List SectionTrace → Type 0) (old new : Option Text) (before now workers status result : ℕ)
    → Traces of old new before now workers status result → IsTraced of old new before now workers result
traced_is of old new before now workers status result (AfterRun h (Whole is sections these app same)) =
    IsWhole (ap has_run is ∙ h) sections these app same
traced_is of old new before now workers status result (AfterRun h (Part is sections these n app rose)) = IsPart is sections these n app rose
traced_is of old new before now workers status result (AfterRun h (NoRoom is o e)) = IsNone (ap has_run is) o e
traced_is of old new before now workers status result (NoRun h is o e) = IsNone (ap has_run is ∙ h) o e

said_no_run : (lines lines' : Option Text) (b n : ℕ) (text : Text) (result : ℕ) → Said lines lines' b n (answer USAGE text) result
    → has_run result ≡ false
said_no_run lines lines' b n text result (SaidWhole is app same) = ap has_run is
said_no_run lines lines' b n text result (SaidPart is k app rose) = ap has_run is

pub all_traced : (usage known : Bool) (lines lines' : Option Text) (b n : ℕ) (text : Text) (ran : ℕ → Type 0) (of : List SectionTrace → Type 0)
    (old new : Option Text) (before now workers result : ℕ)
    → Ends usage known (λ r. Said lines lines' b n (answer USAGE text) r) ran (λ status r. Traces of old new before now workers status r) result
    ((new ≡ old) × (now ≡ before))
    → IsTraced of old new before now workers result
all_traced usage known lines lines' b n text ran of old new before now workers result (ByUsage u s e) =
    IsNone (said_no_run lines lines' b n text result s) e.0 e.1
all_traced usage known lines lines' b n text ran of old new before now workers result (ByRun u status r t) =
    traced_is of old new before now workers status result t
all_traced usage known lines lines' b n text ran of old new before now workers result (ByNone o m e) = IsNone (ap has_run m) e.0 e.1

-- OF WHICH SECTIONS

-- the statements of a section
module _ (script : Script) (s : SectionAt) (part : Statements) (story : Story) (is : part ≡ part_of script s.from s.to s.held) where
  pub part_story : IsStoryIn script part s.section.plan story → IsStoryIn script (part_of script s.from s.to s.held) s.section.plan story
  part_story told = subst (λ p. IsStoryIn script p s.section.plan story) is told

  ends : (held : Option Bool) → (part_of script s.from s.to held).to ≡ s.to
  ends None = refl
  ends (Some true) = refl
  ends (Some false) = refl

  pub part_tells : s.to ≤ length script.statements.items
      → (part.to ≤ length script.statements.items → TellsAllIn script part s.section.plan story)
      → TellsAllIn script (part_of script s.from s.to s.held) s.section.plan story
  part_tells within told = subst (λ p. TellsAllIn script p s.section.plan story) is
      (told (subst (λ n. n ≤ length script.statements.items) (sym (ap (λ (p : Statements). p.to) is ∙ ends s.held)) within))

-- the trace of one section
pub is_trace : (script : Script) (s : SectionAt) (story : Story) (r : Result SectionTrace NoRoomLeft)
    → IsStoryIn script (part_of script s.from s.to s.held) s.section.plan story
    → TellsAllIn script (part_of script s.from s.to s.held) s.section.plan story
    → IfOk r (IsTimelineOf script s.section.plan story) → IfOk r (λ t. t.jobs_before ≡ s.section.jobs_before) → IfOk r (IsTraceOf script s)
is_trace script s story (Ok t) is all timeline jobs = record { story = story; is_story = is; tells_all = all; timeline = timeline; jobs_before = jobs }
is_trace script s story (Err fault) is all timeline jobs = timeline

-- before the first section
pub seen_none : (script : Script) (lost : Bool) (traces : List SectionTrace) → traces ≡ [] → HasTraced script lost traces []
seen_none script lost traces none = inr (subst (λ ts. AreTraces script [] ts) (sym none) tt)

-- one more
pub traces_on : (script : Script) (sections : List SectionAt) (traces : List SectionTrace) (s : SectionAt) (trace : SectionTrace)
    → AreTraces script sections traces → IsTraceOf script s trace → AreTraces script (sections ++ s ∷ []) (traces ++ trace ∷ [])
traces_on script [] [] s trace are is = (is, tt)
traces_on script [] (t ∷ traces) s trace are is = absurd are
traces_on script (x ∷ sections) [] s trace are is = absurd are
traces_on script (x ∷ sections) (t ∷ traces) s trace are is = (are.0, traces_on script sections traces s trace are.1 is)

found : (script : Script) (lost : Bool) (traces : List SectionTrace) (sections : List SectionAt) → HasTraced script lost traces sections → lost ≡ false
    → AreTraces script sections traces
found script lost traces sections (inl e) none = absurd (differ lost e none)
found script lost traces sections (inr are) none = are

-- those of the run that the words ask for
pub of_run : (words : List Text) (told : Told) (lost : Bool) (traces traces' : List SectionTrace)
    → HasSeenAsked (λ script sections. HasTraced script lost traces sections) words told → (lost ≡ false) × (traces' ≡ traces)
    → AreTracesOf words told traces'
of_run words told lost traces traces' seen kept = record {
  script = seen.script;
  table = seen.table;
  read = seen.read;
  table_stands = seen.table_stands;
  sections = seen.has_seen.sections;
  are = seen.has_seen.are;
  traced = subst (λ ts. AreTraces seen.script seen.has_seen.sections ts) (sym kept.1)
      (found seen.script lost traces seen.has_seen.sections seen.has_seen.seen kept.0);
}

-- what is written of some sections is written of what these are
pub writes_as : (of of' : List SectionTrace → Type 0) → ((traces : List SectionTrace) → of traces → of' traces) → (old new : Option Text)
    (before now workers status result : ℕ) → Writes of old new before now workers status result → Writes of' old new before now workers status result
writes_as of of' f old new before now workers status result (Whole is sections these app same) = Whole is sections (f sections these) app same
writes_as of of' f old new before now workers status result (Part is sections these n app rose) = Part is sections (f sections these) n app rose
writes_as of of' f old new before now workers status result (NoRoom is o e) = NoRoom is o e

pub traces_as : (of of' : List SectionTrace → Type 0) (old new : Option Text) (before now workers status result : ℕ)
    → (has_run status ≡ true → (traces : List SectionTrace) → of traces → of' traces)
    → Traces of old new before now workers status result → Traces of' old new before now workers status result
traces_as of of' old new before now workers status result f (AfterRun h w) =
    AfterRun h (writes_as of of' (f h) old new before now workers status result w)
traces_as of of' old new before now workers status result f (NoRun h is o e) = NoRun h is o e

-- WANT OF MEMORY

-- words whose fault is another one are of the command
pub not_fault : {T : Type 0} (b : Bool) {r : Result T WordsFault} → (r ≡ Err Usage ↔ (b ≡ false)) → r ≡ Err NoMemory → b ≡ true
not_fault true h e = refl
not_fault false h e = let f = sym e ∙ h.1 refl in absurd cc

not_said : (lines lines' : Option Text) (b n : ℕ) (text : Text) (result : ℕ) → Said lines lines' b n (answer USAGE text) result → result ≡ NO_MEMORY → ⊥
not_said lines lines' b n text result (SaidWhole is app same) none = omega (arith, is, none)
not_said lines lines' b n text result (SaidPart is k app rose) none = omega (arith, is, none)

left : (a d : Bool) → not (a && not d) ≡ false → a ≡ true
left true d e = refl
left false d e = absurd cc

pub none_of_command : (words : List Text) (lines lines' : Option Text) (b n : ℕ) (text : Text) (ran : ℕ → Type 0) (traced : ℕ → ℕ → Type 0) (result : ℕ)
    (same : Type 0) → Ends (not (is_of_trace words)) (is_of_command words) (λ r. Said lines lines' b n (answer USAGE text) r) ran traced result same
    → result ≡ NO_MEMORY → is_of_command words ≡ true
none_of_command words lines lines' b n text ran traced result same (ByUsage u s e) none = absurd (not_said lines lines' b n text result s none)
none_of_command words lines lines' b n text ran traced result same (ByRun u status r t) none = left (is_of_command words) (asks_depth words) u
none_of_command words lines lines' b n text ran traced result same (ByNone o m e) none = o
