-- What is given settles what is answered.
use Rattle.std.proofs.Common.{◌≡◌, ◌∙◌, ◌⊎◌, inl, inr, ⊎_elim, sym, ap, subst, ℕ, Bool, true, false, List, Option, None, Some, arith}
use Rattle.std.specs.Io.KnownBytes.{Appends}
use Rattle.job_base.specs.Faults.{Rose}
use Rattle.frame_ast.specs.declared.kernel.FaultKind.{FaultKind}
use Rattle.frame_ast.specs.declared.kernel.FaultKind.TheVariants.{TooLong}
use Rattle.frame_ast.specs.declared.script.Script.{Script}
use Rattle.frame_ast.specs.Answers.{script_refused_line, usage_line}
use Rattle.frame_ast.specs.Scripts.{status_of, output_of}
use Rattle.tree_laws.specs.Same.{SameScript}
use Rattle.tree_laws.proofs.Scripts.{same_scripts_run_alike}
use Rattle.text_laws.proofs.Laws.{scripts_are_spelled_once, refusals_are_once, spelled_is_not_refused}
use Rattle.command_words.specs.Words.{Text, is_of_command}
use Rattle.frame_top.specs.Words.{asks_depth, workers_in, table_name}
use Rattle.frame_top.specs.Inputs.{Told, source_told, CanBe, CanBeTable, IsTable, Accepts, ReadsSource, ReadsScript, Reads, IsSource, IsGiven}
use Rattle.frame_top.specs.Refusals.{Answer, answer, Refuses, Size, Fault, Statements, table_refusal, table_of, frame_refusal}
use Rattle.frame_top.specs.Answers.{Cause, Usage, NoScript, BadScript, NoTable, BadTable, OfFrame, FrameCause, Refused, Ran, Reported, IsDepthReport, IsFrame, Answers, Caused, Early, Midway, Whole, Part, Hindered}
use Rattle.frame_top.specs.declared.status.TheConstants.{DONE, USAGE, UNREAD, UNWRITTEN, NO_MEMORY, SCRIPT_REFUSED}
use Rattle.frame_top.proofs.Alike.{same_frame_refusal}

pub none_some : {A : Type 0} (x : A) → None ≡ Some x → ⊥
none_some x e = cc

pub some_once : {A : Type 0} (o : Option A) (x y : A) → o ≡ Some x → o ≡ Some y → x ≡ y
some_once o x y p q = cc

not_both : (d : Bool) → d ≡ true → d ≡ false → ⊥
not_both d p q = cc

-- BYTES THAT ARE TOLD are those that were read

pub source_met : (o : Option Text) (a b : Text) → o ≡ Some a → CanBe o b → b ≡ a
source_met None a b e is = absurd cc
source_met (Some c) a b e is = let same : c ≡ a = cc in is ∙ same

table_bytes_met : (told : Told) (name a b : Text) → told name ≡ Some a → CanBe (told name) b → b ≡ a
table_bytes_met told name a b e is = source_met (told name) a b e is

pub table_met : (told : Told) (name : Option Text) (a b : Option Text) → IsTable told name a → CanBeTable told name b → b ≡ a
table_met told None a b is can = can ∙ sym is
table_met told (Some name) None b is can = absurd is
table_met told (Some name) (Some x) None is can = absurd can
table_met told (Some name) (Some x) (Some y) is can = ap Some (table_bytes_met told name x y is can)

-- THE BYTES OF A SCRIPT are refused once, or accepted

fault_line : (line line' : ℕ) (kind kind' : FaultKind) → line ≡ line' → kind ≡ kind'
    → answer SCRIPT_REFUSED (script_refused_line line kind) ≡ answer SCRIPT_REFUSED (script_refused_line line' kind')
fault_line line line' kind kind' e f = λ i. answer SCRIPT_REFUSED (script_refused_line (e i) (f i))

pub refused_once : (source : Text) (a b : Answer) → Refuses source a → Refuses source b → a ≡ b
refused_once source a b (Size p is) (Size q is') = is ∙ sym is'
refused_once source a b (Size p is) (Fault line kind within r other is') = absurd (omega (arith, p, within))
refused_once source a b (Size p is) (Statements line within r is') = absurd (omega (arith, p, within))
refused_once source a b (Fault line kind within r other is) (Size q is') = absurd (omega (arith, q, within))
refused_once source a b (Fault line kind within r other is) (Fault line' kind' within' r' other' is') =
    let same = refusals_are_once source line line' kind kind' r r' in
    is ∙ fault_line line line' kind kind' same.0 same.1 ∙ sym is'
refused_once source a b (Fault line kind within r other is) (Statements line' within' r' is') =
    absurd (other (refusals_are_once source line line' kind TooLong r r').1)
refused_once source a b (Statements line within r is) (Size q is') = absurd (omega (arith, q, within))
refused_once source a b (Statements line within r is) (Fault line' kind within' r' other is') =
    absurd (other (refusals_are_once source line' line kind TooLong r' r).1)
refused_once source a b (Statements line within r is) (Statements line' within' r' is') = is ∙ sym is'

pub never_both : (source : Text) (script : Script) (a : Answer) → Accepts source script → Refuses source a → ⊥
never_both source script a p (Size q is) = let w = p.within in omega (arith, q, w)
never_both source script a p (Fault line kind within r other is) = spelled_is_not_refused source script line kind p.spelled r
never_both source script a p (Statements line within r is) = spelled_is_not_refused source script line TooLong p.spelled r

-- WHAT IS SETTLED: the answer is this one, or that a read failed.

abbrev pub IsSettled : Type 0 → Answer → Answer → Type 0
IsSettled risen a b = (b ≡ a) ⊎ (b.status ≡ UNREAD) × risen

no_command : (words : List Text) → is_of_command words ≡ true → is_of_command words ≡ false → ⊥
no_command words p q = cc

pub unread_status : (b : Answer) (text : Text) → b ≡ answer UNREAD text → b.status ≡ UNREAD
unread_status b text is = ap (λ (a : Answer). a.status) is

module _ (words : List Text) (told : Told) (risen : Type 0) (failed : Option Text) where
  pub usage_settles : (b : Answer) → is_of_command words ≡ false → Cause words told risen failed b → b ≡ answer USAGE usage_line
  usage_settles b bad (Usage p is) = is
  usage_settles b bad (NoScript p u is) = absurd (no_command words p bad)
  usage_settles b bad (BadScript source read r) = absurd (no_command words read.of_command bad)
  usage_settles b bad (NoTable script read u is) = absurd (no_command words read.read.of_command bad)
  usage_settles b bad (BadTable script table read r) = absurd (no_command words read.script_is.read.of_command bad)
  usage_settles b bad (OfFrame script table read r f) = absurd (no_command words read.script_is.read.of_command bad)

  -- a script that is accepted isn't refused, whichever bytes were read
  pub accepts_same : (source : Text) (script : Script) → IsSource words told source → Accepts source script → (other : Text) (a : Answer)
      → ReadsSource words told other → Refuses other a → ⊥
  accepts_same source script given accepted other a read r =
      let same = source_met (source_told told words) source other given.source_is read.source_is in
      never_both source script a accepted (subst (λ s. Refuses s a) same r)

  pub refuses_same : (source : Text) (a : Answer) → IsSource words told source → Refuses source a → (script : Script) → ReadsScript words told script → ⊥
  refuses_same source a given r script read =
      let same = source_met (source_told told words) source read.source given.source_is read.read.source_is in
      never_both source script a (subst (λ s. Accepts s script) same read.accepted) r

  pub script_settles : (source : Text) (a b : Answer) → IsSource words told source → Refuses source a → Cause words told risen failed b → IsSettled risen a b
  script_settles source a b given r (Usage p is) = absurd (no_command words given.of_command p)
  script_settles source a b given r (NoScript p u is) = inr (unread_status b _ is, u.0)
  script_settles source a b given r (BadScript other read r') =
      let same = source_met (source_told told words) source other given.source_is read.source_is in
      inl (refused_once source b a (subst (λ s. Refuses s b) same r') r)
  script_settles source a b given r (NoTable script read u is) = absurd (refuses_same source a given r script read)
  script_settles source a b given r (BadTable script table read r') = absurd (refuses_same source a given r script read.script_is)
  script_settles source a b given r (OfFrame script table read r' f) = absurd (refuses_same source a given r script read.script_is)

  module _ (script : Script) (table : Option Text) (given : IsGiven words told script table) where
    pub same_script : (other : Script) → ReadsScript words told other → SameScript script other
    same_script other read =
        let same = source_met (source_told told words) given.source read.source given.given.source_is read.read.source_is in
        scripts_are_spelled_once given.source script other given.accepted.spelled (subst (λ s. Accepts s other) same read.accepted).spelled

    pub same_table : (other : Script) (t : Option Text) → Reads words told other t → t ≡ table
    same_table other t read = table_met told (table_name words) table t given.table_is read.table_is

    pub table_settles : (a b : Answer) → table_refusal table ≡ Some a → Cause words told risen failed b → IsSettled risen a b
    table_settles a b r (Usage p is) = absurd (no_command words given.given.of_command p)
    table_settles a b r (NoScript p u is) = inr (unread_status b _ is, u.0)
    table_settles a b r (BadScript other read r') = absurd (accepts_same given.source script given.given given.accepted other b read r')
    table_settles a b r (NoTable other read u is) = inr (unread_status b _ is, u.0)
    table_settles a b r (BadTable other t read r') =
        inl (some_once (table_refusal table) b a (sym (ap table_refusal (same_table other t read)) ∙ r') r)
    table_settles a b r (OfFrame other t read none f) =
        absurd (none_some a (sym none ∙ ap table_refusal (same_table other t read) ∙ r))

    -- what the frame says by itself
    frame_settles_by : (P : Answer → Type 0) (b : Answer) → table_refusal table ≡ None
        → ((other : Script) → SameScript script other → FrameCause other (table_of table) (asks_depth words) (workers_in words) b → P b)
        → Cause words told risen failed b → P b ⊎ (b.status ≡ UNREAD) × risen
    frame_settles_by P b none f (Usage p is) = absurd (no_command words given.given.of_command p)
    frame_settles_by P b none f (NoScript p u is) = inr (unread_status b _ is, u.0)
    frame_settles_by P b none f (BadScript other read r') = absurd (accepts_same given.source script given.given given.accepted other b read r')
    frame_settles_by P b none f (NoTable other read u is) = inr (unread_status b _ is, u.0)
    frame_settles_by P b none f (BadTable other t read r') =
        absurd (none_some b (sym none ∙ sym (ap table_refusal (same_table other t read)) ∙ r'))
    frame_settles_by P b none f (OfFrame other t read none' c) =
        inl (f other (same_script other read.script_is) (subst (λ t. FrameCause other (table_of t) (asks_depth words) (workers_in words) b)
        (same_table other t read) c))

    same_refused : (other : Script) → SameScript script other → frame_refusal script (table_of table) (asks_depth words) ≡ frame_refusal other (table_of table)
        (asks_depth words)
    same_refused other same = same_frame_refusal script other (table_of table) (asks_depth words) same

    refused_is : (a b : Answer) → frame_refusal script (table_of table) (asks_depth words) ≡ Some a → (other : Script) → SameScript script other
        → FrameCause other (table_of table) (asks_depth words) (workers_in words) b → b ≡ a
    refused_is a b r other same (Refused r') = some_once (frame_refusal script (table_of table) (asks_depth words)) b a (same_refused other same ∙ r') r
    refused_is a b r other same (Ran none d is) = absurd (none_some a (sym none ∙ sym (same_refused other same) ∙ r))
    refused_is a b r other same (Reported none d text report is) = absurd (none_some a (sym none ∙ sym (same_refused other same) ∙ r))

    pub frame_settles : (a b : Answer) → table_refusal table ≡ None → frame_refusal script (table_of table) (asks_depth words) ≡ Some a
        → Cause words told risen failed b → IsSettled risen a b
    frame_settles a b none r c = frame_settles_by (λ b. b ≡ a) b none (refused_is a b r) c

    ran_is : (b : Answer) → frame_refusal script (table_of table) (asks_depth words) ≡ None → asks_depth words ≡ false → (other : Script)
        → SameScript script other → FrameCause other (table_of table) (asks_depth words) (workers_in words) b
        → b ≡ answer (status_of script (table_of table)) (output_of script (table_of table))
    ran_is b none plain other same (Refused r) = absurd (none_some b (sym none ∙ same_refused other same ∙ r))
    ran_is b none plain other same (Ran none' d is) =
        let alike = same_scripts_run_alike script other same (table_of table) in
        is ∙ (λ i. answer (sym alike.status i) (sym alike.output i))
    ran_is b none plain other same (Reported none' d text report is) = absurd (not_both (asks_depth words) d plain)

    pub run_settles : (b : Answer) → IsFrame words told script table → asks_depth words ≡ false → Cause words told risen failed b
        → IsSettled risen (answer (status_of script (table_of table)) (output_of script (table_of table))) b
    run_settles b frame plain c = frame_settles_by (λ b. b ≡ answer (status_of script (table_of table)) (output_of script (table_of table))) b
        frame.table_stands (ran_is b frame.accepted plain) c

-- A REPORT

-- a report that was made for these words
pub record IsReported (words : List Text) (told : Told) (b : Answer) : Type 0 where
  pub script : Script
  pub table : Option Text
  pub text : Text
  pub read : Reads words told script table
  pub report : IsDepthReport script (table_of table) (workers_in words) text
  pub is : b ≡ answer DONE text

pub report_settles : (words : List Text) (told : Told) (risen : Type 0) (failed : Option Text) (script : Script) (table : Option Text) (b : Answer)
    → IsFrame words told script table → asks_depth words ≡ true → Cause words told risen failed b → IsReported words told b ⊎ (b.status ≡ UNREAD) × risen
report_settles words told risen failed script table b frame deep (OfFrame other t read none (Reported none' d text report is)) =
    inl (record { script = other; table = t; text = text; read = read; report = report; is = is })
report_settles words told risen failed script table b frame deep (OfFrame other t read none (Ran none' d is)) = absurd (not_both (asks_depth words) deep d)
report_settles words told risen failed script table b frame deep (OfFrame other t read none (Refused r)) =
    let met = table_met told (table_name words) table t frame.given.table_is read.table_is in
    let same = source_met (source_told told words) frame.given.source read.script_is.source frame.given.given.source_is read.script_is.read.source_is in
    let alike = scripts_are_spelled_once frame.given.source script other frame.given.accepted.spelled
    (subst (λ s. Accepts s other) same read.script_is.accepted).spelled in
    absurd (none_some b (sym frame.accepted ∙ same_frame_refusal script other (table_of table) (asks_depth words) alike
    ∙ ap (λ t. frame_refusal other (table_of t) (asks_depth words)) (sym met) ∙ r))
report_settles words told risen failed script table b frame deep (Usage p is) = absurd (no_command words frame.given.given.of_command p)
report_settles words told risen failed script table b frame deep (NoScript p u is) = inr (unread_status b _ is, u.0)
report_settles words told risen failed script table b frame deep (BadScript other read r) =
    absurd (accepts_same words told risen failed frame.given.source script frame.given.given frame.given.accepted other b read r)
report_settles words told risen failed script table b frame deep (NoTable other read u is) = inr (unread_status b _ is, u.0)
report_settles words told risen failed script table b frame deep (BadTable other t read r) =
    let met = table_met told (table_name words) table t frame.given.table_is read.table_is in
    absurd (none_some b (sym frame.table_stands ∙ sym (ap table_refusal met) ∙ r))

pub reported_gives : (words : List Text) (told : Told) (old new : Option Text) (result : ℕ) (unread untaken : Type 0)
    → ((b : Answer) × IsReported words told b × (result ≡ b.status) × Appends old new b.text) ⊎ Hindered unread untaken result
    → ((script : Script) × (table : Option Text) × (text : Text) × Reads words told script table × IsDepthReport script (table_of table) (workers_in words) text
    × (result ≡ DONE) × Appends old new text) ⊎ Hindered unread untaken result
reported_gives words told old new result unread untaken h =
    ⊎_elim (λ p. let r = p.1 in
    inl (
      r.script,
      r.table,
      r.text,
      r.read,
      r.report,
      p.2 ∙ ap (λ (a : Answer). a.status) r.is,
      subst (λ t. Appends old new t)
          (ap (λ (a : Answer). a.text) r.is) p.3,
    ))
    (λ x. inr x) h

pub usage_gives : (words : List Text) (told : Told) (risen : Type 0) (failed : Option Text) (cut : Text → Type 0) (old new : Option Text)
    (before now result : ℕ) → is_of_command words ≡ false
    → Answers (Cause words told risen failed) cut old new before now result → (result ≡ NO_MEMORY → is_of_command words ≡ true)
    → (result ≡ USAGE) × Appends old new usage_line ⊎ (result ≡ UNWRITTEN) × Rose before now
usage_gives words told risen failed cut old new before now result bad (Caused a why (Whole is app same)) early =
    let u = usage_settles words told risen failed a bad why in
    inl (is ∙ ap (λ (x : Answer). x.status) u, subst (λ t. Appends old new t) (ap (λ (x : Answer). x.text) u) app)
usage_gives words told risen failed cut old new before now result bad (Caused a why (Part is n app rose)) early = inr (is, rose)
usage_gives words told risen failed cut old new before now result bad (Early is app same) early = absurd (no_command words (early is) bad)
usage_gives words told risen failed cut old new before now result bad (Midway is text why n app same) early = absurd (no_command words (early is) bad)
