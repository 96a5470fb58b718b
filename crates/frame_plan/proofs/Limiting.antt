-- The limits of a script: what a run takes is at most what the text says, and a limit is passed where it is first passed.
use Rattle.std.proofs.Common.{◌≡◌, ℕ, zero, suc, ◌+◌, ◌<◌, ◌≤◌, ◌⊎◌, inl, inr, ⊎_elim, Bool, true, false, List, [], ◌∷◌, length, take, drop, drop-cons, get_or, Option, None, Some, refl, sym, ap, ◌∙◌, arith}
use Rattle.std.specs.Prelude.{nat_lt}
use Rattle.job_base.specs.declared.limits.TheConstants.{MOST_JOBS, MOST_CREATED_WORDS}
use Rattle.frame_ast.specs.declared.script.Script.{Script}
use Rattle.frame_ast.specs.declared.script.Statement.{Statement}
use Rattle.frame_ast.specs.Limits.{Limit, TooManyJobs, TooManyWords, passed, job_of, words_by, limit_by_run, limit_by_text}
use Rattle.frame_ast.specs.Lists.{first_some, some_if}
use Rattle.frame_ast.specs.Orders.{Table, Setting, setting}
use Rattle.frame_ast.specs.Scripts.{act, act_all}
use Rattle.frame_ast.specs.States.{ScriptState, at_start}
use Rattle.plan_state.specs.declared.state.PlanFault.{PlanFault}
use Rattle.plan_state.specs.declared.state.PlanFault.TheVariants.{Jobs, Words, NoMemory}
use Rattle.frame_plan.specs.Runs.{IsWithin, PassesOnce}
use Rattle.frame_plan.specs.Sections.{limit_told}
use Rattle.plan_state.specs.Steps.{state_at, PassesLimit}
use Rattle.frame_plan.proofs.Taking.{act_takes, one_of}

-- ---- the first limit of a state

below_false : (a b : ℕ) → b ≤ a → nat_lt a b ≡ false
below_false a b le = grind arith

above_true : (a b : ℕ) → a < b → nat_lt a b ≡ true
above_true a b lt = grind arith

pub passed_none : (jobs words : ℕ) → jobs ≤ MOST_JOBS → words ≤ MOST_CREATED_WORDS → passed jobs words ≡ None
unfolding first_some
passed_none jobs words few less = by (nat_lt MOST_JOBS jobs) (nat_lt MOST_CREATED_WORDS words) (below_false MOST_JOBS jobs few)
    (below_false MOST_CREATED_WORDS words less)
  where
    by : (a b : Bool) → a ≡ false → b ≡ false → first_some (some_if a TooManyJobs ∷ some_if b TooManyWords ∷ []) ≡ None
    by true b e f = absurd cc
    by false true e f = absurd cc
    by false false e f = refl

passed_jobs : (jobs words : ℕ) → MOST_JOBS < jobs → passed jobs words ≡ Some TooManyJobs
unfolding first_some
passed_jobs jobs words many = by (nat_lt MOST_JOBS jobs) (above_true MOST_JOBS jobs many)
  where
    by : (a : Bool) → a ≡ true → first_some (some_if a TooManyJobs ∷ some_if (nat_lt MOST_CREATED_WORDS words) TooManyWords ∷ []) ≡ Some TooManyJobs
    by true e = refl
    by false e = absurd cc

passed_words : (jobs words : ℕ) → jobs ≤ MOST_JOBS → MOST_CREATED_WORDS < words → passed jobs words ≡ Some TooManyWords
unfolding first_some
passed_words jobs words few many = by (nat_lt MOST_JOBS jobs) (nat_lt MOST_CREATED_WORDS words) (below_false MOST_JOBS jobs few)
    (above_true MOST_CREATED_WORDS words many)
  where
    by : (a b : Bool) → a ≡ false → b ≡ true → first_some (some_if a TooManyJobs ∷ some_if b TooManyWords ∷ []) ≡ Some TooManyWords
    by true b e f = absurd cc
    by false true e f = refl
    by false false e f = absurd cc

-- where it is none
passed_within : (jobs words : ℕ) → passed jobs words ≡ None → (jobs ≤ MOST_JOBS) × (words ≤ MOST_CREATED_WORDS)
unfolding first_some
passed_within jobs words none = by (nat_lt MOST_JOBS jobs) (nat_lt MOST_CREATED_WORDS words) refl refl none
  where
    at_most : (a b : ℕ) → nat_lt a b ≡ false → b ≤ a
    at_most a b e = grind arith

    by : (a b : Bool) → nat_lt MOST_JOBS jobs ≡ a → nat_lt MOST_CREATED_WORDS words ≡ b
        → first_some (some_if a TooManyJobs ∷ some_if b TooManyWords ∷ []) ≡ None → (jobs ≤ MOST_JOBS) × (words ≤ MOST_CREATED_WORDS)
    by true b e f none = absurd cc
    by false true e f none = absurd cc
    by false false e f none = (at_most MOST_JOBS jobs e, at_most MOST_CREATED_WORDS words f)

-- the first of two
first_is : (o p : Option Limit) → o ≡ None → first_some (o ∷ p ∷ []) ≡ p
unfolding first_some
first_is None None e = refl
first_is None (Some x) e = refl
first_is (Some y) p e = absurd cc

first_told : (o p : Option Limit) (l : Limit) → o ≡ Some l → first_some (o ∷ p ∷ []) ≡ Some l
unfolding first_some
first_told None p l e = absurd cc
first_told (Some y) p l e = e

both_none : (o p : Option Limit) → first_some (o ∷ p ∷ []) ≡ None → (o ≡ None) × (p ≡ None)
unfolding first_some
both_none None None e = (refl, refl)
both_none None (Some x) e = absurd cc
both_none (Some y) p e = absurd cc

-- ---- by the text

pub text_within : (g : Setting) (xs : List Statement) (s : ScriptState) (jobs words n : ℕ)
    → limit_by_text g xs jobs words ≡ None
    → s.book.count ≤ jobs
    → s.created ≤ words
    → jobs ≤ MOST_JOBS
    → words ≤ MOST_CREATED_WORDS
    → IsWithin (act_all g (take n xs) s)
text_within g xs s jobs words zero none few less most all = record { jobs = omega arith; words = omega arith }
text_within g [] s jobs words (suc n) none few less most all = record { jobs = omega arith; words = omega arith }
text_within g (x ∷ more) s jobs words (suc n) none few less most all =
    let both = both_none (passed (jobs + job_of x.act) (words + words_by g x.act))
    (limit_by_text g more (jobs + job_of x.act) (words + words_by g x.act)) none in
    let within = passed_within (jobs + job_of x.act) (words + words_by g x.act) both.0 in
    let t = act_takes g s x in
    let jobs_to = t.jobs_to in
    let words_to = t.words_to in
    text_within g more (act g s x) (jobs + job_of x.act) (words + words_by g x.act) n both.1 (omega arith) (omega arith) within.0 within.1

pub script_text_within : (script : Script) (table : Table) (n : ℕ) → limit_by_text (setting script table) script.statements.items 0 0 ≡ None
    → IsWithin (state_at script table n)
script_text_within script table n none = text_within (setting script table) script.statements.items at_start 0 0 n none (omega arith) (omega arith)
    (omega arith) (omega arith)

-- a run of such a script passes no limit
pub text_passes_none : (script : Script) (table : Table) (fault : PlanFault) → limit_by_text (setting script table) script.statements.items 0 0 ≡ None
    → PassesOnce fault script table → fault ≡ NoMemory
text_passes_none script table Jobs none p = let w = script_text_within script table (suc p.n) none in let few = w.jobs in
    let many : MOST_JOBS < (state_at script table (suc p.n)).book.count = p.passes in absurd (omega arith)
text_passes_none script table Words none p = let w = script_text_within script table (suc p.n) none in let few = w.words in
    let many : MOST_CREATED_WORDS < (state_at script table (suc p.n)).created = p.passes in absurd (omega arith)
text_passes_none script table NoMemory none p = refl

-- ---- by a run

pub all_grow : (g : Setting) (xs : List Statement) (s : ScriptState) → IsWithin (act_all g xs s) → IsWithin s
all_grow g [] s w = w
all_grow g (x ∷ more) s w =
    let t = act_takes g s x in
    let r = all_grow g more (act g s x) w in
    let jobs = r.jobs in
    let words = r.words in
    let jobs_from = t.jobs_from in
    let words_from = t.words_from in
    record { jobs = omega arith; words = omega arith }

-- where the last state is within the limits, each is
pub run_none : (g : Setting) (xs : List Statement) (s : ScriptState) → IsWithin (act_all g xs s) → limit_by_run g xs s ≡ None
run_none g [] s w = refl
run_none g (x ∷ more) s w =
    let here = all_grow g more (act g s x) w in
    first_is (passed (act g s x).book.count (act g s x).created) (limit_by_run g more (act g s x))
    (passed_none (act g s x).book.count (act g s x).created here.jobs here.words)
    ∙ run_none g more (act g s x) w

-- the limit that a statement passes after a state within the limits
passed_at : (g : Setting) (s : ScriptState) (x : Statement) (fault : PlanFault) → IsWithin s → PassesLimit fault (act g s x)
    → (fault ≡ NoMemory) ⊎ (passed (act g s x).book.count (act g s x).created ≡ limit_told fault)
passed_at g s x NoMemory w p = inl refl
passed_at g s x Jobs w p = inr (passed_jobs (act g s x).book.count (act g s x).created p)
passed_at g s x Words w p =
    let t = act_takes g s x in
    let few = w.jobs in
    let less = w.words in
    let jobs_to = t.jobs_to in
    let words_to = t.words_to in
    let many : MOST_CREATED_WORDS < (act g s x).created = p in
    inr (passed_words (act g s x).book.count (act g s x).created (⊎_elim (λ (e : job_of x.act ≡ 0). let none = e in omega arith)
    (λ (e : words_by g x.act ≡ 0). let none = e in absurd (omega arith)) (one_of g x.act)) p)

some_limit : (fault : PlanFault) (o p : Option Limit) → (fault ≡ NoMemory) ⊎ (o ≡ limit_told fault)
    → (fault ≡ NoMemory) ⊎ (first_some (o ∷ p ∷ []) ≡ limit_told fault)
some_limit Jobs o p h = ⊎_elim inl (λ e. inr (first_told o p TooManyJobs e)) h
some_limit Words o p h = ⊎_elim inl (λ e. inr (first_told o p TooManyWords e)) h
some_limit NoMemory o p h = inl refl

run_passes : (g : Setting) (xs : List Statement) (s : ScriptState) (n : ℕ) (fault : PlanFault) → n < length xs → IsWithin (act_all g (take n xs) s)
    → PassesLimit fault (act_all g (take (suc n) xs) s)
    → (fault ≡ NoMemory) ⊎ (limit_by_run g xs s ≡ limit_told fault)
run_passes g [] s n fault lt w p = absurd (omega arith)
run_passes g (x ∷ more) s zero fault lt w p = some_limit fault _ (limit_by_run g more (act g s x)) (passed_at g s x fault w p)
run_passes g (x ∷ more) s (suc n) fault lt w p =
    let here = all_grow g (take n more) (act g s x) w in
    ⊎_elim inl (λ e. inr (first_is (passed (act g s x).book.count (act g s x).created) (limit_by_run g more (act g s x))
    (passed_none (act g s x).book.count (act g s x).created here.jobs here.words) ∙ e))
    (run_passes g more (act g s x) n fault (omega arith) w p)

pub script_run_passes : (script : Script) (table : Table) (fault : PlanFault) → PassesOnce fault script table
    → (fault ≡ NoMemory) ⊎ (limit_by_run (setting script table) script.statements.items at_start ≡ limit_told fault)
script_run_passes script table fault p = run_passes (setting script table) script.statements.items at_start p.n fault p.here p.within p.passes

-- ---- the text, statement by statement

module _ (g : Setting) (xs : List Statement) (i : ℕ) (x : Statement) (jobs words j w : ℕ) (lt : i < length xs) (is : x ≡ get_or xs i x)
    (j_is : j ≡ job_of x.act) (w_is : w ≡ words_by g x.act) where
  next : limit_by_text g (drop i xs) jobs words ≡ first_some (passed (jobs + j) (words + w) ∷ limit_by_text g (drop (i + 1) xs) (jobs + j) (words + w) ∷ [])
  next =
      let one : i + 1 ≡ suc i = omega arith in
      let cut : drop i xs ≡ x ∷ drop (i + 1) xs = drop-cons xs i x lt ∙ (λ k. sym is k ∷ drop (sym one k) xs) in
      ap (λ ys. limit_by_text g ys jobs words) cut
      ∙ (λ k. first_some (passed (jobs + sym j_is k) (words + sym w_is k) ∷ limit_by_text g (drop (i + 1) xs) (jobs + sym j_is k) (words + sym w_is k) ∷ []))

  pub text_jobs : MOST_JOBS < jobs + j → limit_by_text g (drop i xs) jobs words ≡ Some TooManyJobs
  text_jobs many = next ∙ first_told (passed (jobs + j) (words + w)) (limit_by_text g (drop (i + 1) xs) (jobs + j) (words + w)) TooManyJobs
      (passed_jobs (jobs + j) (words + w) many)

  pub text_words : jobs + j ≤ MOST_JOBS → MOST_CREATED_WORDS < words + w → limit_by_text g (drop i xs) jobs words ≡ Some TooManyWords
  text_words few many = next ∙ first_told (passed (jobs + j) (words + w)) (limit_by_text g (drop (i + 1) xs) (jobs + j) (words + w)) TooManyWords
      (passed_words (jobs + j) (words + w) few many)

  pub text_on : jobs + j ≤ MOST_JOBS → words + w ≤ MOST_CREATED_WORDS → limit_by_text g (drop (i + 1) xs) (jobs + j) (words + w) ≡ limit_by_text g
      (drop i xs) jobs words
  text_on few less = sym (next ∙ first_is (passed (jobs + j) (words + w)) (limit_by_text g (drop (i + 1) xs) (jobs + j) (words + w))
      (passed_none (jobs + j) (words + w) few less))
