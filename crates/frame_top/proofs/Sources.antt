-- What the bytes of a script answer.
use Rattle.std.proofs.Common.{◌≡◌, ◌≢◌, ◌⊎◌, inl, inr, ⊎_elim, refl, sym, ap, ◌∙◌, subst, ℕ, ◌≤◌, true, false, List, [], length, take, Option, None, Some, arith}
use Rattle.std.specs.Prelude.{IfSome, if◌then◌else◌, nat_lt, option_map}
use Rattle.std.proofs.lemmas.Bool.Decides.{nat_tests}
use Rattle.std.specs.Io.KnownBytes.{Appends}
use Rattle.job_base.specs.declared.limits.TheConstants.{MOST_SCRIPT_BYTES, MOST_TABLE_BYTES}
use Rattle.job_base.specs.Faults.{Rose}
use Rattle.frame_ast.specs.declared.kernel.FaultKind.{FaultKind}
use Rattle.frame_ast.specs.declared.kernel.FaultKind.TheVariants.{TooLong}
use Rattle.frame_ast.specs.declared.script.Script.{Script}
use Rattle.frame_ast.specs.Answers.{script_refused_line, statements_line, table_size_line}
use Rattle.frame_ast.specs.Scripts.{status_of, output_of}
use Rattle.frame_script.specs.Loading.{IsRefused}
use Rattle.tree_laws.specs.Same.{SameScript}
use Rattle.tree_laws.proofs.Scripts.{same_scripts_run_alike}
use Rattle.text_laws.proofs.Laws.{scripts_are_spelled_once}
use Rattle.plan_statements.specs.Tables.{columns_of}
use Rattle.table_in.specs.declared.TableFault.{TableFault}
use Rattle.table_in.specs.declared.TableFault.TheVariants as fault
use Rattle.table_in.specs.Columns.{NamedColumn}
use Rattle.table_in.specs.Rows.{rows_in, table_fault}
use Rattle.command_words.specs.Words.{Text}
use Rattle.frame_top.specs.Inputs.{Accepts}
use Rattle.frame_top.specs.Refusals.{Answer, answer, Refuses, Fault, Statements, frame_refusal, refused_table, table_of, table_refusal}
use Rattle.frame_top.specs.Answers.{Answers, AnswersTo, Caused, Early, Midway, Whole, Part, FrameCause, Refused, Ran, Reported, IsCut, SaidTo, Hindered, NotTaken, NotFound}
use Rattle.frame_top.specs.Sources.{SourceCause, BadSource, WithBadTable, WithTable, CanBeCutOf, IsAcceptedFrame}
use Rattle.frame_top.specs.declared.status.TheConstants.{NO_MEMORY, PAST_LIMIT, SCRIPT_REFUSED}
use Rattle.frame_top.proofs.Alike.{same_frame_refusal}
use Rattle.table_laws.specs.Laws.{AnswerAllAlike}
use Rattle.frame_top.proofs.Tables.{same_cause, same_cut}
use Rattle.frame_top.proofs.Framing.{by_cause, none_said}
use Rattle.frame_top.proofs.Settling.{refused_once, never_both}
use Rattle.frame_top.proofs.Telling.{is_many}

none_some : {A : Type 0} (x : A) → None ≡ Some x → ⊥
none_some x e = cc

some_once : {A : Type 0} (o : Option A) (x y : A) → o ≡ Some x → o ≡ Some y → x ≡ y
some_once o x y p q = cc

-- the answer that each cause gives is given
pub given : (cause : Answer → Type 0) (cut : Text → Type 0) (old new : Option Text) (before now result : ℕ) (a : Answer)
    → ((b : Answer) → cause b → b ≡ a) → Answers cause cut old new before now result
    → (result ≡ a.status) × Appends old new a.text ⊎ Hindered ⊥ (Rose before now) result
given cause cut old new before now result a same (Caused b why (Whole is app e)) =
    let s = same b why in inl (is ∙ ap (λ (x : Answer). x.status) s, subst (λ t. Appends old new t) (ap (λ (x : Answer). x.text) s) app)
given cause cut old new before now result a same (Caused b why (Part is n app rose)) = inr (NotTaken is rose)
given cause cut old new before now result a same (Early is app e) = inr (NotFound is)
given cause cut old new before now result a same (Midway is text why n app e) = inr (NotFound is)

-- whatever is answered, something was added to what was taken, and nothing else became of it
pub grown : (cause : Answer → Type 0) (cut : Text → Type 0) (old new : Option Text) (before now result : ℕ)
    → Answers cause cut old new before now result → (more : Text) × Appends old new more
grown cause cut old new before now result (Caused a why (Whole is app e)) = (a.text, app)
grown cause cut old new before now result (Caused a why (Part is n app rose)) = (take n a.text, app)
grown cause cut old new before now result (Early is app e) = ([], app)
grown cause cut old new before now result (Midway is text why n app e) = (take n text, app)

-- TABLES THAT ARE TOO LONG, or not

pub long_refused : (table : Option Text) (bytes : Text) → table ≡ Some bytes → nat_lt MOST_TABLE_BYTES (length bytes) ≡ true
    → table_refusal table ≡ Some (answer PAST_LIMIT table_size_line)
long_refused table bytes is long =
    ap table_refusal is
    ∙ ap (λ b. if b then Some (answer PAST_LIMIT table_size_line) else option_map refused_table (table_fault (rows_in bytes))) long

pub within_table : (table : Option Text) (bytes : Text) → table ≡ Some bytes → nat_lt MOST_TABLE_BYTES (length bytes) ≡ false
    → IfSome table (λ b. length b ≤ MOST_TABLE_BYTES)
within_table table bytes is short = subst (λ o. IfSome o (λ b. length b ≤ MOST_TABLE_BYTES)) (sym is) (grind (arith, nat_tests))

-- WHAT IS DUE

module _ (source : Text) (table : Option Text) where
  pub refuses_same : (a b : Answer) → Refuses source a → SourceCause source table b → b ≡ a
  refuses_same a b r (BadSource r') = refused_once source b a r' r
  refuses_same a b r (WithBadTable script accepted t) = absurd (never_both source script a accepted r)
  refuses_same a b r (WithTable script accepted none c) = absurd (never_both source script a accepted r)

  module _ (script : Script) (accepted : Accepts source script) where
    alike : (other : Script) → Accepts source other → SameScript script other
    alike other p = scripts_are_spelled_once source script other accepted.spelled p.spelled

    same_refused : (other : Script) → Accepts source other → frame_refusal script (table_of table) false ≡ frame_refusal other (table_of table) false
    same_refused other p = same_frame_refusal script other (table_of table) false (alike other p)

    pub table_same : (a b : Answer) → table_refusal table ≡ Some a → SourceCause source table b → b ≡ a
    table_same a b t (BadSource r) = absurd (never_both source script b accepted r)
    table_same a b t (WithBadTable other p t') = some_once (table_refusal table) b a t' t
    table_same a b t (WithTable other p none c) = absurd (none_some a (sym none ∙ t))

    pub frame_same : (a b : Answer) → table_refusal table ≡ None → frame_refusal script (table_of table) false ≡ Some a → SourceCause source table b → b ≡ a
    frame_same a b t r (BadSource r') = absurd (never_both source script b accepted r')
    frame_same a b t r (WithBadTable other p t') = absurd (none_some b (sym t ∙ t'))
    frame_same a b t r (WithTable other p t' (Refused r')) =
        some_once (frame_refusal script (table_of table) false) b a (same_refused other p ∙ r') r
    frame_same a b t r (WithTable other p t' (Ran none d is)) = absurd (none_some a (sym none ∙ sym (same_refused other p) ∙ r))
    frame_same a b t r (WithTable other p t' (Reported none d text report is)) = absurd cc

  pub run_same : (script : Script) (frame : IsAcceptedFrame source table script) (b : Answer) → SourceCause source table b
      → b ≡ answer (status_of script (table_of table)) (output_of script (table_of table))
  run_same script frame b (BadSource r) = absurd (never_both source script b frame.accepted r)
  run_same script frame b (WithBadTable other p t) = absurd (none_some b (sym frame.table_stands ∙ t))
  run_same script frame b (WithTable other p t (Refused r)) =
      absurd (none_some b (sym frame.frame_stands ∙ same_refused script frame.accepted other p ∙ r))
  run_same script frame b (WithTable other p t (Ran none d is)) =
      let same = same_scripts_run_alike script other (alike script frame.accepted other p) (table_of table) in
      is ∙ (λ i. answer (sym same.status i) (sym same.output i))
  run_same script frame b (WithTable other p t (Reported none d text report is)) = absurd cc

  -- a script that is refused
  pub refused_source : {S : Type 0} (taken : S → Option Text) (faults : S → ℕ) (cut : Text → Type 0) (line : ℕ) (kind : FaultKind) (old new : S) (result : ℕ)
      → length source ≤ MOST_SCRIPT_BYTES → IsRefused source line kind
      → (kind ≢ TooLong → SaidTo taken faults old new (answer SCRIPT_REFUSED (script_refused_line line kind)) result)
      → (kind ≡ TooLong → SaidTo taken faults old new (answer PAST_LIMIT statements_line) result)
      → AnswersTo taken faults old new (SourceCause source table) cut result
  refused_source taken faults cut line kind old new result within refused faulty many =
      ⊎_elim (λ e. Caused _ (BadSource (Statements line within (subst (λ k. IsRefused source line k) e refused) refl)) (many e))
      (λ ne. Caused _ (BadSource (Fault line kind within refused ne refl)) (faulty ne)) (is_many kind)

  module _ (script : Script) (accepted : Accepts source script) where
    -- what script and table answer
    pub of_frame : (columns : List NamedColumn) (old new : Option Text) (before now result : ℕ) → table_refusal table ≡ None
        → AnswerAllAlike (columns_of columns) (table_of table) script.statements.items
        → Answers (FrameCause script (columns_of columns) false 1) (IsCut script (columns_of columns) false) old new before now result
        → Answers (SourceCause source table) (CanBeCutOf source table) old new before now result
    of_frame columns old new before now result stands cs a =
        by_cause _ _ _ _ old new before now result
        (λ b why. WithTable script accepted stands (same_cause script (columns_of columns) (table_of table) cs false 1 b why))
        (λ t cut. record { script = script; accepted = accepted; cut = same_cut script (columns_of columns) (table_of table) cs false t cut })
        a

    -- a table that is refused
    pub of_table : {S : Type 0} (taken : S → Option Text) (faults : S → ℕ) (f : TableFault) (old new : S) (result : ℕ)
        → (f ≡ fault.NoMemory) ⊎ (f ≢ fault.NoMemory) × (table_refusal table ≡ Some (refused_table f))
        → (f ≢ fault.NoMemory → SaidTo taken faults old new (refused_table f) result)
        → (f ≡ fault.NoMemory → (result ≡ NO_MEMORY) × (new ≡ old))
        → AnswersTo taken faults old new (SourceCause source table) (CanBeCutOf source table) result
    of_table taken faults f old new result why said none =
        ⊎_elim (λ e. let n = none e in none_said taken faults (SourceCause source table) (CanBeCutOf source table) old new result n.0 n.1)
        (λ r. Caused (refused_table f) (WithBadTable script accepted r.1) (said r.0)) why
