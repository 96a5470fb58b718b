-- Why a call answers what it does.
use Rattle.std.proofs.Common.{◌≡◌, ◌≢◌, ◌⊎◌, ◌≤◌, inl, inr, ⊎_elim, refl, sym, ap, ◌∙◌, subst, ℕ, ◌<◌, Bool, true, false, List, length, Option, None, Some, Result, Ok, Err, ◌↔◌, lt-ltb}
use Rattle.std.specs.Prelude.{if◌then◌else◌, option_map}
use Rattle.job_base.specs.declared.limits.TheConstants.{MOST_TABLE_BYTES, MOST_SCRIPT_BYTES}
use Rattle.frame_ast.specs.declared.kernel.FaultKind.{FaultKind}
use Rattle.frame_ast.specs.declared.kernel.FaultKind.TheVariants.{Syntax, UnknownName, DuplicateName, KindMismatch, ReadOfWriteOnly, WriteOfReadOnly, Limit, TooLong}
use Rattle.frame_ast.specs.declared.script.Script.{Script}
use Rattle.frame_script.specs.Loading.{IsRefused}
use Rattle.job_base.specs.Faults.{Rose}
use Rattle.frame_ast.specs.Answers.{table_size_line, script_refused_line, statements_line}
use Rattle.plan_statements.specs.Tables.{columns_of}
use Rattle.table_in.specs.declared.TableFault.{TableFault}
use Rattle.table_in.specs.declared.TableFault.TheVariants as fault
use Rattle.table_in.specs.Columns.{NamedColumn}
use Rattle.table_in.specs.Rows.{rows_in, table_fault}
use Rattle.command_words.specs.Words.{Text}
use Rattle.frame_top.specs.Words.{asks_depth, workers_in}
use Rattle.frame_top.specs.Inputs.{Told, ReadsSource, Reads, IsUnreadOf}
use Rattle.frame_top.specs.Refusals.{answer, Fault, Statements, table_refusal, refused_table, table_of}
use Rattle.frame_top.specs.Answers.{AnswersTo, Answers, Caused, Cause, BadScript, BadTable, OfFrame, FrameCause, IsCut, CanBeCut, SaidTo}
use Rattle.frame_top.specs.declared.status.TheConstants.{NO_MEMORY, PAST_LIMIT, SCRIPT_REFUSED}
use Rattle.table_laws.specs.Laws.{AnswerAllAlike}
use Rattle.frame_top.proofs.Tables.{same_cause, same_cut}
use Rattle.frame_top.proofs.Framing.{by_cause, none_said}

pub too_long_refused : (bytes : Text) → MOST_TABLE_BYTES < length bytes → table_refusal (Some bytes) ≡ Some (answer PAST_LIMIT table_size_line)
too_long_refused bytes h = ap (λ b. if b then Some (answer PAST_LIMIT table_size_line) else option_map refused_table (table_fault (rows_in bytes)))
    (lt-ltb MOST_TABLE_BYTES (length bytes) h)

pub counted : {T E A : Type 0} (v : T) (f : E) → ◌≡◌ {A = Result T E} (Ok v) (Err f) ⊎ A → A
counted v f (inl e) = absurd cc
counted v f (inr a) = a

-- words that were read are of the command
pub not_usage : {T E : Type 0} (v : T) (f : E) (b : Bool) → (◌≡◌ {A = Result T E} (Ok v) (Err f) ↔ (b ≡ false)) → b ≡ true
not_usage v f true h = refl
not_usage v f false h = let e = h.1 refl in absurd cc

pub is_many : (kind : FaultKind) → (kind ≡ TooLong) ⊎ (kind ≢ TooLong)
is_many Syntax = inr (λ e. cc)
is_many UnknownName = inr (λ e. cc)
is_many DuplicateName = inr (λ e. cc)
is_many KindMismatch = inr (λ e. cc)
is_many ReadOfWriteOnly = inr (λ e. cc)
is_many WriteOfReadOnly = inr (λ e. cc)
is_many Limit = inr (λ e. cc)
is_many TooLong = inl refl

pub refused_at : (source : Text) (line line' : ℕ) (kind kind' : FaultKind) → line' ≡ line → kind' ≡ kind → IsRefused source line kind
    → IsRefused source line' kind'
refused_at source line line' kind kind' e d r = subst (λ l. IsRefused source l kind') (sym e) (subst (λ k. IsRefused source line k) (sym d) r)

-- what was read before doesn't matter
pub moved : (words : List Text) (told told' : Told) (m m' n : ℕ) (failed : Option Text) (old new : Option Text) (before now result : ℕ) → told' ≡ told → m' ≡ m
    → Answers (Cause words told' (Rose m' n) failed) (CanBeCut words told') old new before now result
    → Answers (Cause words told (Rose m n) failed) (CanBeCut words told) old new before now result
moved words told told' m m' n failed old new before now result e f a =
    subst (λ k. Answers (Cause words told (Rose k n) failed) (CanBeCut words told) old new before now result) f
    (subst (λ (t : Told). Answers (Cause words t (Rose m' n) failed) (CanBeCut words t) old new before now result) e a)

pub later_reads : (words : List Text) (m m' n : ℕ) (f f' g : Option Text) → m' ≡ m → f' ≡ f → (n ≡ m') × (g ≡ f') ⊎ IsUnreadOf words (Rose m' n) g
    → (n ≡ m) × (g ≡ f) ⊎ IsUnreadOf words (Rose m n) g
later_reads words m m' n f f' g e d h = ⊎_elim (λ p. inl (p.0 ∙ e, p.1 ∙ d)) (λ p. inr (subst (λ k. IsUnreadOf words (Rose k n) g) e p)) h

module _ (words : List Text) (told : Told) (risen : Type 0) (failed : Option Text) where
  -- a script and its table
  pub of_frame : (script : Script) (table : Option Text) (columns : List NamedColumn) (depth : Bool) (workers : ℕ) (old new : Option Text)
      (before now result : ℕ)
      → Reads words told script table → table_refusal table ≡ None → AnswerAllAlike (columns_of columns) (table_of table) script.statements.items
      → depth ≡ asks_depth words → workers ≡ workers_in words
      → Answers (FrameCause script (columns_of columns) depth workers) (IsCut script (columns_of columns) depth) old new before now result
      → Answers (Cause words told risen failed) (CanBeCut words told) old new before now result
  of_frame script table columns depth workers old new before now result read stands cs ds ws a =
      by_cause _ _ _ _ old new before now result
      (λ b why. OfFrame script table read stands (same_cause script (columns_of columns) (table_of table) cs (asks_depth words) (workers_in words) b
      (subst (λ w. FrameCause script (columns_of columns) (asks_depth words) w b) ws (subst (λ d. FrameCause script (columns_of columns) d workers b) ds why))))
      (λ t cut. record {
        script = script;
        table = table;
        read = read;
        table_stands = stands;
        cut = same_cut script (columns_of columns) (table_of table) cs (asks_depth words) t
            (subst (λ d. IsCut script (columns_of columns) d t) ds cut);
      })
      a

  -- a table that is refused
  pub of_table : {S : Type 0} (taken : S → Option Text) (faults : S → ℕ) (script : Script) (table : Option Text) (f : TableFault) (old new : S) (result : ℕ)
      → Reads words told script table
      → (f ≡ fault.NoMemory) ⊎ (f ≢ fault.NoMemory) × (table_refusal table ≡ Some (refused_table f))
      → (f ≢ fault.NoMemory → SaidTo taken faults old new (refused_table f) result)
      → (f ≡ fault.NoMemory → (result ≡ NO_MEMORY) × (new ≡ old))
      → AnswersTo taken faults old new (Cause words told risen failed) (CanBeCut words told) result
  of_table taken faults script table f old new result read why said none =
      ⊎_elim (λ e. let n = none e in none_said taken faults (Cause words told risen failed) (CanBeCut words told) old new result n.0 n.1)
      (λ r. Caused (refused_table f) (BadTable script table read r.1) (said r.0)) why

  -- a script that is refused
  pub of_source : {S : Type 0} (taken : S → Option Text) (faults : S → ℕ) (source : Text) (line : ℕ) (kind : FaultKind) (old new : S) (result : ℕ)
      → ReadsSource words told source → length source ≤ MOST_SCRIPT_BYTES → IsRefused source line kind
      → (kind ≢ TooLong → SaidTo taken faults old new (answer SCRIPT_REFUSED (script_refused_line line kind)) result)
      → (kind ≡ TooLong → SaidTo taken faults old new (answer PAST_LIMIT statements_line) result)
      → AnswersTo taken faults old new (Cause words told risen failed) (CanBeCut words told) result
  of_source taken faults source line kind old new result read within refused faulty many =
      ⊎_elim (λ e. Caused _ (BadScript source read (Statements line within (subst (λ k. IsRefused source line k) e refused) refl)) (many e))
      (λ ne. Caused _ (BadScript source read (Fault line kind within refused ne refl)) (faulty ne)) (is_many kind)
