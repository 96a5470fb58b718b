-- A statement of a script that a planner stands before, and the planner after it.
use Rattle.std.proofs.Common.{◌≡◌, ℕ, zero, suc, ◌<◌, ◌≤◌, ⊎_elim, true, false, ℤ, List, [], ◌∷◌, ◌++◌, length, None, Some, Result, Ok, Err, refl, sym, ap, subst, ◌∙◌, arith}
use Rattle.std.specs.Prelude.{◌^◌, IfErr, IsErrAnd, slice_get, vec_len}
use Rattle.std.proofs.lemmas.Bool.{cases_eq}
use Rattle.frame_ast.specs.declared.script.Order.{Order}
use Rattle.frame_ast.specs.declared.script.Order.TheVariants.{Schedule, When}
use Rattle.frame_ast.specs.declared.script.Script.{Script}
use Rattle.frame_ast.specs.declared.script.Sign.{Sign}
use Rattle.frame_ast.specs.declared.script.Statement.{Statement}
use Rattle.frame_ast.specs.Accepted.{is_when}
use Rattle.frame_ast.specs.Orders.{Table, setting}
use Rattle.frame_core.proofs.Small.{some_is, not_both}
use Rattle.plan_state.specs.declared.state.PlanFault.{PlanFault}
use Rattle.plan_state.specs.declared.state.PlanFault.TheVariants.{NoMemory}
use Rattle.plan_state.specs.declared.answer.Answer.{Answer}
use Rattle.plan_state.specs.declared.start.JobAnswer.{JobAnswer}
use Rattle.plan_state.specs.declared.state.Draft.{Draft}
use Rattle.plan_state.specs.declared.state.Planner.{Planner}
use Rattle.plan_state.specs.declared.state.World.{World}
use Rattle.plan_state.specs.Answers.{Answers, AnswersIn, ExceedsIn, HasTaken, IsReadyFor}
use Rattle.plan_state.specs.Growth.{Grows}
use Rattle.plan_state.specs.Starts.{HasTakenJob, SchedulesIn}
use Rattle.frame_plan.specs.Runs.{adds_no_job, IsActingTest, NoneActs, IsAtStatement, HasPassed, StopsAt, GoesPast, FailsAtPlace}
use Rattle.plan_state.specs.Stands.{Stands}
use Rattle.plan_state.specs.Steps.{state_at, state_after, IsBefore, IsReady, HasStepped, PassesLimit}
use Rattle.plan_statements.specs.Tests.{Acts, IsRefused}
use Rattle.plan_statements.proofs.Ranges.NewContainers.{ready_literals}
use Rattle.plan_state.proofs.Reaching.{next_state}

-- the statement, with its form written out
abbrev pub written : Statement → Order → Statement
written x a = record { line = x.line; act = a }

pub is_written : (x : Statement) (a : Order) → x.act ≡ a → x ≡ written x a
is_written x a e = λ i. record { line = x.line; act = e i }

-- where it isn't passed by, the planner stands before it
abbrev pub before : {script : Script} {table : Table} {p : Planner} {x : Statement} (at : IsAtStatement script table p x) → p.world.passing ≡ 0 → (a : Order)
    → x.act ≡ a → IsBefore script table p (written x a)
before {x = x} at acts a is = record {
  begun = at.begun;
  n = at.n;
  found = at.found;
  step = record { accepted = at.accepted; here = at.here ∙ ap Some (is_written x a is); acts = sym at.stands.numbers.passing ∙ acts };
  stands = at.stands;
}

module _ {script : Script} {table : Table} {p : Planner} {x : Statement} (at : IsAtStatement script table p x) (acts : p.world.passing ≡ 0) (a : Order)
    (is : x.act ≡ a) where
  next : (b : IsBefore script table p (written x a)) → state_after script table b.n (written x a) ≡ state_at script table (suc b.n)
  next b = next_state script table b.n (written x a) b.step.here

  pub passed_in : (q : Planner) → ((b : IsBefore script table p (written x a)) → HasStepped b q) → HasPassed script table p q x
  passed_in q h there =
      let b = before there acts a is in
      let r = h b in
      record {
        more = r.more;
        stands = subst (λ s. Stands q (setting script table) b.begun (suc b.n) s (b.found ++ r.more)) (next b) r.stands;
        grows = λ starts same. subst (λ y. Grows (setting script table) (state_at script table b.n) y starts b.begun.book.count p q)
            (sym (is_written x a is)) (r.grows starts same);
      }

  -- some planner with its world is ready
  pub sees : IsReadyFor p.world a
  sees = (x.line, p, (script, table, before at acts a is))

  -- it goes on where its draft takes the answer
  pub taken : (w : World) (draft : Draft) (answer : Answer) → Answers p.world w a answer → HasTaken p.draft draft x.line answer
      → HasPassed script table p (record p { world = w; draft = draft }) x
  taken w draft answer answers took = passed_in (record p { world = w; draft = draft }) (answers x.line p draft took script table)

  pub taken_in : (w : World) (draft : Draft) (answer : Answer) → AnswersIn script table p.world w (written x a) answer → HasTaken p.draft draft x.line answer
      → HasPassed script table p (record p { world = w; draft = draft }) x
  taken_in w draft answer answers took = passed_in (record p { world = w; draft = draft }) (answers p draft took)

  pub scheduled_in : (w : World) (draft : Draft) (answer : JobAnswer) → SchedulesIn script table p.world w (written x a) answer
      → HasTakenJob p.draft draft script x.line answer
      → HasPassed script table p (record p { world = w; draft = draft }) x
  scheduled_in w draft answer answers took = passed_in (record p { world = w; draft = draft }) (answers p draft took)

  -- there is room for a literal more
  pub few_literals : vec_len p.draft.literals < 2 ^ 32
  few_literals = ready_literals (before at acts a is)

  pub exceeds_in : (fault : PlanFault) → ExceedsIn script table fault p.world (written x a) → FailsAtPlace script table fault p x
  exceeds_in fault h there = let b = before there acts a is in subst (PassesLimit fault) (next b) (h p b)

-- THE WORLD ALONE, before a statement of which the form is written out

-- some planner with this world stands before it
abbrev IsBeforeAt : Script → World → Statement → Type 0
IsBeforeAt script w x = (p : Planner) × (table : Table) × IsBefore script table (record p { world = w }) x

pub before_at : {script : Script} {x : Statement} {a : Order} {old : World} → x.act ≡ a → IsBeforeAt script old x → IsBeforeAt script old (written x a)
before_at {script} {x} {a} {old} is r = subst (IsBeforeAt script old) (is_written x a is) r

pub ready_at : {script : Script} {x : Statement} {a : Order} {old : World} → x.act ≡ a → IsBeforeAt script old x
    → (p : Planner) × IsReady (record p { world = old }) (written x a)
ready_at {script} is r = let b = before_at is r in (b.0, (script, b.1, b.2))

pub ready_for : {script : Script} {x : Statement} {a : Order} {old : World} → x.act ≡ a → IsBeforeAt script old x → IsReadyFor old a
ready_for {x = x} is r = let b = ready_at is r in (x.line, b.0, b.1)

pub answers_in : {script : Script} {table : Table} {x : Statement} {a : Order} {old new : World} → x.act ≡ a → (answer : Answer)
    → AnswersIn script table old new (written x a) answer → AnswersIn script table old new x answer
answers_in {script} {table} {x} {a} {old} {new} is answer h = subst (λ y. AnswersIn script table old new y answer) (sym (is_written x a is)) h

pub answers_for : {script : Script} {table : Table} {x : Statement} {a : Order} {old new : World} → x.act ≡ a → (answer : Answer)
    → Answers old new a answer → AnswersIn script table old new x answer
answers_for {script} {table} {x} is answer h = answers_in is answer (λ p draft took. h x.line p draft took script table)

pub exceeding : {script : Script} {table : Table} {x : Statement} {a : Order} {old : World} → x.act ≡ a → (fault : PlanFault)
    → ExceedsIn script table fault old (written x a) → ExceedsIn script table fault old x
exceeding {script} {table} {x} {a} {old} is fault h = subst (λ y. ExceedsIn script table fault old y) (sym (is_written x a is)) h

-- want of memory passes no limit
pub of_memory : {script : Script} {table : Table} {x : Statement} {old : World} {fault : PlanFault} → fault ≡ NoMemory → ExceedsIn script table fault old x
of_memory {script} {table} {x} is p b = subst (λ f. PassesLimit f (state_after script table b.n x)) (sym is) tt

-- which statements are asked for an answer
pub leaves : (a : Order) → ((job : _) → a ≡ Schedule job → ⊥) → is_when a ≡ false → adds_no_job a ≡ true
leaves (Schedule job) s w = absurd (s job refl)
leaves (When name sign value count) s w = absurd (not_both refl w)
leaves a s w = refl

pub not_when : (a : Order) → ((name : ℕ) (sign : Sign) (value : ℤ) (count : ℕ) → a ≡ When name sign value count → ⊥) → is_when a ≡ false
not_when (When name sign value count) not = absurd (not name sign value count refl)
not_when a not = refl

pub if_err : {T E : Type 0} (r : Result T E) {P Q : E → Type 0} → ((e : E) → P e → Q e) → IfErr r P → IfErr r Q
if_err (Ok x) f h = tt
if_err (Err e) f h = f e h

-- a `when` that isn't refused
pub test_stops : {script : Script} {table : Table} {p : Planner} {x : Statement} (at : IsAtStatement script table p x) (acts : p.world.passing ≡ 0) (name : ℕ)
    (sign : Sign) (value : ℤ) (count : ℕ) (is : x.act ≡ When name sign value count)
    → Acts p.world (When name sign value count)
    → StopsAt script table p x
test_stops {script} {table} {p} {x} at acts name sign value count is h there =
    let b = before there acts (When name sign value count) is in
    subst (IsActingTest (setting script table) (state_at script table b.n)) (sym is) (b.step.acts, h x.line p script table b)

-- a statement that is passed by, and what is no `when`
pub passes_by : (script : Script) (table : Table) (p : Planner) (x : Statement) → 0 < p.world.passing → GoesPast script table p x
passes_by script table p x some at acts = by x.act acts
  where
    by : (a : Order) → IsActingTest (setting script table) (state_at script table at.n) a → ⊥
    by (When name sign value count) h = (let same = at.stands.numbers.passing in let none = h.0 in absurd (omega arith))
    by a h = h

pub other_past : (script : Script) (table : Table) (p : Planner) (x : Statement) → is_when x.act ≡ false → GoesPast script table p x
other_past script table p x other at acts = by x.act other acts
  where
    by : (a : Order) → is_when a ≡ false → IsActingTest (setting script table) (state_at script table at.n) a → ⊥
    by (When name sign value count) e h = not_both refl e
    by a e h = h

-- a `when` that is refused
pub test_past : {script : Script} {table : Table} {p : Planner} {x : Statement} (at : IsAtStatement script table p x)
    → (acts : p.world.passing ≡ 0)
    → (name : ℕ) (sign : Sign) (value : ℤ) (count : ℕ) (is : x.act ≡ When name sign value count)
    → IsRefused p.world (When name sign value count)
    → GoesPast script table p x
test_past {script} {table} {p} {x} at acts name sign value count is h there test =
    h x.line p script table (before there acts (When name sign value count) is)
    (subst (IsActingTest (setting script table) (state_at script table there.n)) is test).1

-- one statement more is no test that acts
pub one_past : {script : Script} {table : Table} {p : Planner} {x : Statement} (at : IsAtStatement script table p x) (from n : ℕ) (y : Statement)
    → GoesPast script table p x
    → NoneActs script table from at.n
    → from ≤ n → n ≤ at.n → slice_get script.statements.items n ≡ Some y
    → IsActingTest (setting script table) (state_at script table n) y.act → ⊥
one_past {script} {table} {x = x} at from n y past none low le there acts = ⊎_elim
    (λ (e : n ≡ at.n). (let same : y ≡ x = some_is (sym there ∙ ap (slice_get script.statements.items) e ∙ at.here) in
    past at (subst (λ k. IsActingTest (setting script table) (state_at script table k) x.act) e
    (subst (λ (z : Statement). IsActingTest (setting script table) (state_at script table n) z.act) same acts))))
    (λ ne. none n y low (omega arith) there acts) (cases_eq n at.n)

pub err_is : {T E : Type 0} (r : Result T E) (e : E) (P : E → Type 0) → IsErrAnd r (λ f. f ≡ e) → P e → IfErr r P
err_is (Ok x) e P h p = tt
err_is (Err f) e P h p = subst P (sym h) p

pub past_end : {A : Type 0} (xs : List A) (n : ℕ) → length xs ≤ n → slice_get xs n ≡ None
past_end [] n le = refl
past_end (x ∷ xs) zero le = absurd (omega arith)
past_end (x ∷ xs) (suc n) le = past_end xs n (omega arith)
