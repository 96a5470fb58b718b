-- What a script and its table answer.
use Rattle.std.proofs.Common.{◌≡◌, ◌⊎◌, ⊎_elim, refl, sym, ap, ◌∙◌, subst, ℕ, zero, suc, ◌-◌, ◌<◌, ◌≤◌, Bool, true, false, List, [], ◌∷◌, ◌++◌, length, take, get_or, Option, None, Some, option_map, arith}
use Rattle.std.specs.Prelude.{slice_get, if◌then◌else◌, ◌||◌}
use Rattle.std.specs.Io.KnownBytes.{Appends}
use Rattle.std.specs.List.{list_any}
use Rattle.frame_ast.specs.declared.script.Script.{Script}
use Rattle.frame_ast.specs.declared.script.Statement.{Statement}
use Rattle.frame_ast.specs.Accepted.{is_when}
use Rattle.frame_ast.specs.Answers.{limit_line, no_column_line, script_refused_line}
use Rattle.frame_ast.specs.Limits.{Limit, limit_of}
use Rattle.frame_ast.specs.Lists.{first_some}
use Rattle.frame_ast.specs.Orders.{Table, setting}
use Rattle.frame_ast.specs.Scripts.{status_of, output_of}
use Rattle.job_base.proofs.Parts.{appends_none}
use Rattle.plan_state.specs.declared.state.PlanFault.{PlanFault}
use Rattle.plan_state.specs.declared.state.PlanFault.TheVariants.{NoMemory}
use Rattle.frame_plan.specs.Missing.{lacks_column, missing_from}
use Rattle.frame_plan.specs.Sections.{limit_told, IsPlanOf}
use Rattle.frame_core.specs.declared.plan.Plan.{Plan}
use Rattle.job_depth.specs.declared.report.Depth.{Depth}
use Rattle.job_depth.specs.Depths.{IsDepthOf}
use Rattle.job_depth.specs.Texts.{depth_text}
use Rattle.frame_ast.specs.declared.kernel.FaultKind.TheVariants.{Limit as Limited}
use Rattle.frame_top.specs.Answers.{SaidTo, AnswersTo, Answers, Caused, Early, Midway, FrameCause, Refused, Ran, Reported, IsCut, has_when}
use Rattle.frame_top.specs.Refusals.{Answer, answer, column_name, column_refusal, depth_refusal, limit_refusal, frame_refusal, first_when}
use Rattle.frame_top.specs.declared.status.TheConstants.{DONE, NO_MEMORY, PAST_LIMIT, SCRIPT_REFUSED, TABLE_REFUSED}

-- THE FIRST OF THREE

none_of : (a b c : Option Answer) → a ≡ None → b ≡ None → c ≡ None → first_some (a ∷ b ∷ c ∷ []) ≡ None
unfolding first_some
none_of a b c p q r = rw (p, q, r) refl

third_of : (a b c : Option Answer) (x : Answer) → a ≡ None → b ≡ None → c ≡ Some x → first_some (a ∷ b ∷ c ∷ []) ≡ Some x
unfolding first_some
third_of a b c x p q r = rw (p, q, r) refl

second_of : (a b c : Option Answer) (x : Answer) → a ≡ None → b ≡ Some x → first_some (a ∷ b ∷ c ∷ []) ≡ Some x
unfolding first_some
second_of a b c x p q = rw (p, q) refl

first_of : (a b c : Option Answer) (x : Answer) → a ≡ Some x → first_some (a ∷ b ∷ c ∷ []) ≡ Some x
unfolding first_some
first_of a b c x p = rw p refl

module _ (script : Script) (table : Table) (depth : Bool) where
  pub no_refusal : column_refusal table script.statements.items ≡ None → depth_refusal depth script.statements.items ≡ None
      → limit_of (setting script table) script.statements.items ≡ None → frame_refusal script table depth ≡ None
  no_refusal columns tests limits = none_of (column_refusal table script.statements.items) (depth_refusal depth script.statements.items)
      (limit_refusal script table) columns tests (ap (option_map (λ limit. answer PAST_LIMIT (limit_line limit))) limits)

  pub limit_refuses : (limit : Limit) → column_refusal table script.statements.items ≡ None → depth_refusal depth script.statements.items ≡ None
      → limit_of (setting script table) script.statements.items ≡ Some limit → frame_refusal script table depth ≡ Some (answer PAST_LIMIT (limit_line limit))
  limit_refuses limit columns tests limits = third_of (column_refusal table script.statements.items) (depth_refusal depth script.statements.items)
      (limit_refusal script table) (answer PAST_LIMIT (limit_line limit)) columns tests (ap (option_map (λ limit. answer PAST_LIMIT (limit_line limit))) limits)

  pub tests_refuse : (a : Answer) → column_refusal table script.statements.items ≡ None → depth_refusal depth script.statements.items ≡ Some a
      → frame_refusal script table depth ≡ Some a
  tests_refuse a columns tests = second_of (column_refusal table script.statements.items) (depth_refusal depth script.statements.items)
      (limit_refusal script table) a columns tests

  pub column_refuses : (a : Answer) → column_refusal table script.statements.items ≡ Some a → frame_refusal script table depth ≡ Some a
  column_refuses a columns = first_of (column_refusal table script.statements.items) (depth_refusal depth script.statements.items)
      (limit_refusal script table) a columns

-- ANSWERS

pub by_cause : (cause cause' : Answer → Type 0) (cut cut' : List ℕ → Type 0) (old new : Option (List ℕ)) (before now result : ℕ)
    → ((a : Answer) → cause a → cause' a) → ((t : List ℕ) → cut t → cut' t)
    → Answers cause cut old new before now result → Answers cause' cut' old new before now result
by_cause cause cause' cut cut' old new before now result f g (Caused a why said) = Caused a (f a why) said
by_cause cause cause' cut cut' old new before now result f g (Early is app same) = Early is app same
by_cause cause cause' cut cut' old new before now result f g (Midway is text why n app same) = Midway is text (g text why) n app same

-- nothing was said before
pub from_same : {S : Type 0} (taken : S → Option (List ℕ)) (faults : S → ℕ) (cause : Answer → Type 0) (cut : List ℕ → Type 0) (old mid new : S) (result : ℕ)
    → mid ≡ old → AnswersTo taken faults mid new cause cut result → AnswersTo taken faults old new cause cut result
from_same taken faults cause cut old mid new result same a = subst (λ s. AnswersTo taken faults s new cause cut result) same a

-- memory was wanting before anything was written
pub none_said : {S : Type 0} (taken : S → Option (List ℕ)) (faults : S → ℕ) (cause : Answer → Type 0) (cut : List ℕ → Type 0) (old new : S) (result : ℕ)
    → result ≡ NO_MEMORY → new ≡ old → AnswersTo taken faults old new cause cut result
none_said taken faults cause cut old new result is same =
    Early is (subst (λ s. Appends (taken old) (taken s) []) (sym same) (appends_none (taken old))) (ap faults same)

-- a script that is run
pub run_answers : (script : Script) (table : Table) (workers : ℕ) (old new : Option (List ℕ)) (before now result : ℕ)
    → column_refusal table script.statements.items ≡ None → limit_of (setting script table) script.statements.items ≡ None
    → Answers (λ a. a ≡ answer (status_of script table) (output_of script table))
    (λ text. (has_when script ≡ true) × (text ≡ output_of script table)) old new before now result
    → Answers (FrameCause script table false workers) (IsCut script table false) old new before now result
run_answers script table workers old new before now result columns limits a =
    let none = no_refusal script table false columns refl limits in
    by_cause _ _ _ _ old new before now result (λ b e. Ran none refl e) (λ t e. record { accepted = none; run = refl; tested = e.0; output = e.1 }) a

-- a script that has no plan
no_limit : (f : PlanFault) → f ≡ NoMemory → (limit : Limit) → limit_told f ≡ Some limit → ⊥
no_limit f e limit told = let bad : None ≡ Some limit = sym (ap limit_told e) ∙ told in cc

pub plan_answers : {S : Type 0} (taken : S → Option (List ℕ)) (faults : S → ℕ) (script : Script) (table : Table) (depth : Bool) (workers : ℕ)
    (fault : PlanFault) (old new : S) (result : ℕ)
    → column_refusal table script.statements.items ≡ None → depth_refusal depth script.statements.items ≡ None
    → (fault ≡ NoMemory) ⊎ (limit_of (setting script table) script.statements.items ≡ limit_told fault)
    → ((limit : Limit) → limit_told fault ≡ Some limit → SaidTo taken faults old new (answer PAST_LIMIT (limit_line limit)) result)
    → (limit_told fault ≡ None → (result ≡ NO_MEMORY) × (new ≡ old))
    → AnswersTo taken faults old new (FrameCause script table depth workers) (IsCut script table depth) result
plan_answers taken faults script table depth workers fault old new result columns tests limits said none = by (limit_told fault) refl
  where
    by : (o : Option Limit) → limit_told fault ≡ o → AnswersTo taken faults old new (FrameCause script table depth workers) (IsCut script table depth) result
    by None e = let n = none e in none_said taken faults (FrameCause script table depth workers) (IsCut script table depth) old new result n.0 n.1
    by (Some limit) e = Caused (answer PAST_LIMIT (limit_line limit))
        (Refused (limit_refuses script table depth limit columns tests (⊎_elim (λ m. absurd (no_limit fault m limit e)) (λ l. l ∙ e) limits))) (said limit e)

-- COLUMNS

pub record IsMissing (table : Table) (n k : ℕ) (xs : List Statement) : Type 0 where
  pub low : n ≤ k
  pub x : Statement
  pub here : slice_get xs (k - n) ≡ Some x
  pub refused : column_refusal table xs ≡ Some (answer TABLE_REFUSED (no_column_line (column_name x.act)))

missing_by : (table : Table) (n k : ℕ) (x : Statement) (xs : List Statement) (b : Bool) → lacks_column table x.act ≡ b
    → (if b then Some n else missing_from table (suc n) xs) ≡ Some k → (missing_from table (suc n) xs ≡ Some k → IsMissing table (suc n) k xs)
    → IsMissing table n k (x ∷ xs)
missing_by table n k x xs true e h rest =
    let same : n ≡ k = cc in record {
      low = omega (arith, same);
      x = x;
      here = ap (λ m. slice_get (x ∷ xs) m) (let z : k - n ≡ 0 = omega (arith, same) in z);
      refused = ap (λ b. if b then Some (answer TABLE_REFUSED (no_column_line (column_name x.act))) else column_refusal table xs) e;
    }
missing_by table n k x xs false e h rest =
    let m = rest h in
    let low = m.low in record {
      low = omega (arith, low);
      x = m.x;
      here = ap (λ j. slice_get (x ∷ xs) j) (let z : k - n ≡ suc (k - suc n) = omega (arith, low) in z) ∙ m.here;
      refused = ap (λ b. if b then Some (answer TABLE_REFUSED (no_column_line (column_name x.act))) else column_refusal table xs) e ∙ m.refused;
    }

pub missing_is : (table : Table) (n k : ℕ) (xs : List Statement) → missing_from table n xs ≡ Some k → IsMissing table n k xs
missing_is table n k [] h = absurd cc
missing_is table n k (x ∷ xs) h = missing_by table n k x xs (lacks_column table x.act) refl h (missing_is table (suc n) k xs)

pub none_missing : (table : Table) (n : ℕ) (xs : List Statement) → missing_from table n xs ≡ None → column_refusal table xs ≡ None
none_missing table n [] h = refl
none_missing table n (x ∷ xs) h = by (lacks_column table x.act) refl h (none_missing table (suc n) xs)
  where
    by : (b : Bool) → lacks_column table x.act ≡ b → (if b then Some n else missing_from table (suc n) xs) ≡ None
        → (missing_from table (suc n) xs ≡ None → column_refusal table xs ≡ None) → column_refusal table (x ∷ xs) ≡ None
    by true e h rest = absurd cc
    by false e h rest = ap (λ b. if b then Some (answer TABLE_REFUSED (no_column_line (column_name x.act))) else column_refusal table xs) e ∙ rest h

-- `when`

pub none_first : (xs : List Statement) → first_when xs ≡ None → list_any (λ x. is_when x.act) xs ≡ false
none_first [] h = refl
none_first (x ∷ xs) h = by (is_when x.act) refl h (none_first xs)
  where
    by : (b : Bool) → is_when x.act ≡ b → (if b then Some x.line else first_when xs) ≡ None
        → (first_when xs ≡ None → list_any (λ (x : Statement). is_when x.act) xs ≡ false) → list_any (λ (x : Statement). is_when x.act) (x ∷ xs) ≡ false
    by true e h rest = absurd cc
    by false e h rest = ap (λ b. b || list_any (λ (x : Statement). is_when x.act) xs) e ∙ rest h

pub first_refuses : (xs : List Statement) (line : ℕ) → first_when xs ≡ Some line
    → depth_refusal true xs ≡ Some (answer SCRIPT_REFUSED (script_refused_line line Limited))
first_refuses xs line e = ap (option_map (λ line. answer SCRIPT_REFUSED (script_refused_line line Limited))) e

pub when_refuses : {S : Type 0} (taken : S → Option (List ℕ)) (faults : S → ℕ) (script : Script) (table : Table) (workers line : ℕ) (old new : S) (result : ℕ)
    → column_refusal table script.statements.items ≡ None → first_when script.statements.items ≡ Some line
    → SaidTo taken faults old new (answer SCRIPT_REFUSED (script_refused_line line Limited)) result
    → AnswersTo taken faults old new (FrameCause script table true workers) (IsCut script table true) result
when_refuses taken faults script table workers line old new result columns e said =
    Caused _ (Refused (tests_refuse script table true _ columns (first_refuses script.statements.items line e))) said

pub no_first : (xs : List Statement) → first_when xs ≡ None → depth_refusal true xs ≡ None
no_first xs e = ap (option_map (λ line. answer SCRIPT_REFUSED (script_refused_line line Limited))) e

pub no_plan : {S : Type 0} (taken : S → Option (List ℕ)) (faults : S → ℕ) (script : Script) (table : Table) (workers : ℕ) (fault : PlanFault) (old new : S)
    (result : ℕ)
    → column_refusal table script.statements.items ≡ None → first_when script.statements.items ≡ None
    → (fault ≡ NoMemory) ⊎ (limit_of (setting script table) script.statements.items ≡ limit_told fault)
    → ((limit : Limit) → limit_told fault ≡ Some limit → SaidTo taken faults old new (answer PAST_LIMIT (limit_line limit)) result)
    → (limit_told fault ≡ None → (result ≡ NO_MEMORY) × (new ≡ old))
    → AnswersTo taken faults old new (FrameCause script table true workers) (IsCut script table true) result
no_plan taken faults script table workers fault old new result columns tests limits said none =
    plan_answers taken faults script table true workers fault old new result columns (no_first script.statements.items tests) limits said none

-- the report of a plan
pub reports : (script : Script) (table : Table) (workers : ℕ) (plan : Plan) (depth : Depth) → column_refusal table script.statements.items ≡ None
    → first_when script.statements.items ≡ None → limit_of (setting script table) script.statements.items ≡ None
    → IsPlanOf script table plan → IsDepthOf plan workers depth → FrameCause script table true workers (answer DONE (depth_text depth))
reports script table workers plan depth columns tests limits is deep =
    Reported (no_refusal script table true columns (no_first script.statements.items tests) limits) refl (depth_text depth)
    (record { plan = plan; is_plan = is; depth = depth; is_depth = deep; text_is = refl }) refl

-- the place of a statement
pub index_there : {A : Type 0} (xs : List A) (k : ℕ) (x : A) → slice_get xs k ≡ Some x → k < length xs
index_there [] k x e = absurd cc
index_there (y ∷ ys) zero x e = omega arith
index_there (y ∷ ys) (suc k) x e = let rest = index_there ys k x e in omega arith

less_zero : (k : ℕ) → k - 0 ≡ k
less_zero k = omega arith

pub at_missing : (table : Table) (k : ℕ) (xs : List Statement) → missing_from table 0 xs ≡ Some k
    → (x : Statement) × (slice_get xs k ≡ Some x) × (column_refusal table xs ≡ Some (answer TABLE_REFUSED (no_column_line (column_name x.act))))
at_missing table k xs e = let m = missing_is table 0 k xs e in (m.x, subst (λ j. slice_get xs j ≡ Some m.x) (less_zero k) m.here, m.refused)

got : {A : Type 0} (xs : List A) (k : ℕ) (x d : A) → slice_get xs k ≡ Some x → get_or xs k d ≡ x
got [] k x d e = absurd cc
got (y ∷ ys) zero x d e = let same : y ≡ x = cc in same
got (y ∷ ys) (suc k) x d e = got ys k x d e

pub column_said : {S : Type 0} (taken : S → Option (List ℕ)) (faults : S → ℕ) (table : Table) (k : ℕ) (xs : List Statement) (it : Statement)
    (name : List ℕ) (old new : S) (result : ℕ)
    → missing_from table 0 xs ≡ Some k → it ≡ get_or xs k it → name ≡ column_name it.act
    → SaidTo taken faults old new (answer TABLE_REFUSED (no_column_line name)) result
    → (a : Answer) × (column_refusal table xs ≡ Some a) × SaidTo taken faults old new a result
column_said taken faults table k xs it name old new result e at named said =
    let m = at_missing table k xs e in
    let same : it ≡ m.0 = at ∙ got xs k m.0 it m.1 in (
      _,
      m.2,
      subst (λ n. SaidTo taken faults old new (answer TABLE_REFUSED (no_column_line n)) result)
          (named ∙ ap (λ (x : Statement). column_name x.act) same) said,
    )

pub column_answers : {S : Type 0} (taken : S → Option (List ℕ)) (faults : S → ℕ) (script : Script) (table : Table) (depth : Bool) (workers k : ℕ)
    (it : Statement) (name : List ℕ) (old new : S) (result : ℕ)
    → missing_from table 0 script.statements.items ≡ Some k → it ≡ get_or script.statements.items k it → name ≡ column_name it.act
    → SaidTo taken faults old new (answer TABLE_REFUSED (no_column_line name)) result
    → AnswersTo taken faults old new (FrameCause script table depth workers) (IsCut script table depth) result
column_answers taken faults script table depth workers k it name old new result e at named said =
    let m = at_missing table k script.statements.items e in
    let same : it ≡ m.0 = at ∙ got script.statements.items k m.0 it m.1 in
    Caused _ (Refused (column_refuses script table depth _ m.2)) (subst (λ n. SaidTo taken faults old new (answer TABLE_REFUSED (no_column_line n)) result)
    (named ∙ ap (λ (x : Statement). column_name x.act) same) said)

-- NOTHING WAITED before a text

pub none_waited : (old new : Option (List ℕ)) (waited text : List ℕ) → waited ≡ [] → Appends old new (waited ++ text) → Appends old new text
none_waited old new waited text none app = subst (λ w. Appends old new (w ++ text)) none app

pub none_cut : (old new : Option (List ℕ)) (waited text : List ℕ) → waited ≡ [] → (n : ℕ) × Appends old new (take n (waited ++ text))
    → (n : ℕ) × Appends old new (take n text)
none_cut old new waited text none cut = (cut.0, subst (λ w. Appends old new (take cut.0 (w ++ text))) none cut.1)
