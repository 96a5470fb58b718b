-- What the bytes of a script and of a table answer, with no words and no files.
use Rattle.std.specs.Prelude.{◌≡◌, ◌⊎◌, ℕ, false, Option, None, Some}
use Rattle.std.specs.Io.KnownBytes.{Appends}
use Rattle.job_base.specs.Faults.{Rose}
use Rattle.frame_ast.specs.declared.script.Script.{Script}
use Rattle.command_words.specs.Words.{Text}
use Rattle.frame_top.specs.Inputs.{Accepts}
use Rattle.frame_top.specs.Refusals.{Answer, Refuses, frame_refusal, table_of, table_refusal}
use Rattle.frame_top.specs.Answers.{FrameCause, Hindered, IsCut}

-- The bytes spell this script, and neither the table nor the two together are refused.
pub record IsAcceptedFrame (source : Text) (table : Option Text) (script : Script) : Type 0 where
  pub accepted : Accepts source script
  pub table_stands : table_refusal table ≡ None
  pub frame_stands : frame_refusal script (table_of table) false ≡ None

-- What is answered, and why: the script is refused, or its table is, or the two together answer.
pub data SourceCause (source : Text) (table : Option Text) (a : Answer) : Type 0 where
  BadSource : Refuses source a → SourceCause source table a
  WithBadTable : (script : Script) → Accepts source script → table_refusal table ≡ Some a → SourceCause source table a
  WithTable : (script : Script) → Accepts source script → table_refusal table ≡ None
      → FrameCause script (table_of table) false 1 a → SourceCause source table a

-- The text may be cut where memory is wanting.
pub record CanBeCutOf (source : Text) (table : Option Text) (text : Text) : Type 0 where
  pub script : Script
  pub accepted : Accepts source script
  pub cut : IsCut script (table_of table) false text

-- An answer is given, unless the sink failed or memory was wanting: no read can fail here.
abbrev pub GivesSource : {S : Type 0} → (S → Option Text) → (S → ℕ) → S → S → Answer → ℕ → Type 0
GivesSource taken faults sink sink' a result = (result ≡ a.status) × Appends (taken sink) (taken sink') a.text
    ⊎ Hindered ⊥ (Rose (faults sink) (faults sink')) result

-- What a sink took is only added to.
abbrev pub Grows : {S : Type 0} → (S → Option Text) → S → S → Type 0
Grows taken sink sink' = (more : Text) × Appends (taken sink) (taken sink') more
