-- A section is handed out, and the first one is planned.
use Rattle.std.proofs.Common.{◌≡◌, ℕ, zero, suc, ◌+◌, ◌<◌, ◌≤◌, ◌⊎◌, inl, inr, ⊎_elim, Bool, true, false, List, [], ◌∷◌, ◌++◌, length, map, take, Option, None, Some, refl, sym, ap, subst, ◌∙◌, arith, append-nil}
use Rattle.std.specs.Prelude.{get_or, slice_get, IsSome, if◌then◌else◌}
use Rattle.std.specs.List.{list_any}
use Rattle.frame_ast.specs.declared.script.Order.{Order}
use Rattle.frame_ast.specs.declared.script.Order.TheVariants.{When}
use Rattle.frame_ast.specs.declared.script.Script.{Script}
use Rattle.frame_ast.specs.declared.script.Statement.{Statement}
use Rattle.frame_ast.specs.Accepted.{IsAccepted, is_when}
use Rattle.frame_ast.specs.Limits.{limit_by_run, limit_by_text, limit_of}
use Rattle.frame_ast.specs.Orders.{Table, Setting, setting}
use Rattle.frame_ast.specs.Ranges.{Starts}
use Rattle.frame_ast.specs.Scripts.{act_all}
use Rattle.frame_ast.specs.States.{ScriptState, JobTrap, at_start}
use Rattle.slot_store.specs.Stores.{peak_of}
use Rattle.frame_core.specs.declared.plan.Plan.{Plan}
use Rattle.frame_core.specs.Graphs.{cells_after}
use Rattle.frame_core.specs.Output.{plan_refused, plan_traps}
use Rattle.frame_core.proofs.Small.{some_is, none_some, not_both, or_false_left, or_false_right}
use Rattle.plan_laws.specs.Finishing.{IsDone}
use Rattle.plan_laws.specs.Planned.{renumbered}
use Rattle.frame_plan.specs.declared.section.Section.{Section}
use Rattle.frame_plan.specs.declared.section.Test.{Test}
use Rattle.frame_plan.specs.declared.sections.SectionBook.{SectionBook}
use Rattle.frame_plan.specs.declared.small_jobs.SmallJobs.TheVariants.{Cut}
use Rattle.plan_state.specs.declared.state.PlanFault.{PlanFault}
use Rattle.plan_state.specs.declared.state.PlanFault.TheVariants.{NoMemory}
use Rattle.plan_state.specs.declared.state.Planner.{Planner}
use Rattle.plan_state.specs.Growth.{first_jobs, unless_none}
use Rattle.frame_plan.specs.Bindings.{IsBindAt, bind_named}
use Rattle.frame_plan.specs.Layouts.{AreScheduled, IsLaidOut}
use Rattle.frame_plan.specs.Names.{AreNamesOf}
use Rattle.frame_plan.specs.References.{IsOfTest, IsTestFor}
use Rattle.frame_plan.specs.Runs.{IsInside, IsActingTest, IsStop, IsWithin, PassesOnce, IsFinished, IsEmptied, outline_of}
use Rattle.frame_plan.specs.Sections.{limit_told, IsTestOf, EndsBy, IsPlannedFrom, IsTakenBack, IsHandedOut, IsAt, IsNext, IsPlanOf}
use Rattle.frame_plan.specs.Works.{works_by}
use Rattle.plan_state.specs.Steps.{state_at, IsBefore}
use Rattle.frame_plan.proofs.NamedWords.{bound}
use Rattle.frame_plan.proofs.Laying.{scheduled_later}
use Rattle.frame_plan.proofs.Limiting.{text_passes_none, script_run_passes, run_none}
use Rattle.frame_plan.proofs.References.{reference_held, reference_inside, first_is_none}
use Rattle.frame_plan.proofs.Wholes.{some_planned}

-- a stop at a statement is a `when`
pub not_test : (g : Setting) (s : ScriptState) (a : Order) → IsActingTest g s a → is_when a ≡ true
not_test g s (When name sign value count) h = refl
not_test g s a h = absurd h

-- ---- a section

-- names that a plan took over
pub names_handed : (script : Script) (given taken : List (List ℕ)) → taken ≡ given → AreNamesOf script given → AreNamesOf script taken
names_handed script given taken e names = subst (AreNamesOf script) (sym e) names

-- the planner stands where the section ends
abbrev pub at_end : {book : SectionBook} {script : Script} {table : Table} {from : ℕ} → IsPlannedFrom book script table from → IsInside script book.planner
at_end {book} {script} {table} {from} ready = record {
  accepted = ready.accepted;
  table = table;
  begun = state_at script table from;
  n = book.at;
  found = ready.found;
  inside = ready.inside;
  stands = ready.stands;
}

module _ (script : Script) (table : Table) (from : ℕ) (book : SectionBook) (ready : IsPlannedFrom book script table from) (new : Planner)
    (none : List (List ℕ)) (plan : Plan) (test : Option Test)
    (finished : IsFinished script book.planner plan) (emptied : IsEmptied book.planner new)
    (tests : IsTestFor book.planner (slice_get script.statements.items book.at) test) (names : AreNamesOf script plan.names) where
  abbrev s : ScriptState
  s = state_at script table book.at

  abbrev section : Section
  section = record { plan = plan; jobs_before = book.planner.world.jobs_before; small_jobs = book.small_jobs; test = test }

  abbrev after : SectionBook
  after = record { planner = new; small_jobs = book.small_jobs; at = book.at; names = none; spare = book.spare }

  done : IsDone (outline_of plan ready.found (state_at script table from)) (state_at script table book.at)
  done = finished.done (at_end ready)

  -- the plan has the definitions' ranges, jobs and contents
  laid_out : IsLaidOut script table book.small_jobs from book.at plan
  laid_out =
      let starts : Starts = (λ k. get_or ready.found k 0) in
      let h = ready.grown starts (λ k lt. refl) in
      let planned = some_planned (at_end ready) in
      let draft = book.planner.draft in
      record {
        starts = starts;
        ranges = h.ranges.fits;
        spans = finished.spans ∙ h.spans;
        cells = finished.cells ∙ h.ranges.peak;
        count = (let e = ap length finished.jobs in let c = planned.ordered.count in omega arith);
        jobs = scheduled_later script table starts (works_by book.small_jobs script.kernels.items) from book.at
            draft.kernels.items [] plan.kernels.items draft.jobs.items [] plan.jobs.items draft.segments.items finished.segments_later plan.segments.items
            (finished.kernels ∙ sym (append-nil draft.kernels.items)) (finished.jobs ∙ sym (append-nil draft.jobs.items))
            finished.segments
            (subst (λ works. AreScheduled script table works starts from book.at draft.kernels.items draft.jobs.items draft.segments.items) ready.works
            h.jobs);
        waits = finished.waits
            ∙ (let a = h.waits in let b = ap length (sym finished.jobs) in λ i. a i ++ unless_none (first_jobs (b i)));
        contents = done.contents;
      }

  abbrev at_test : (x : Statement) → slice_get script.statements.items book.at ≡ Some x → s.passing ≡ 0 → IsBefore script table book.planner x
  at_test x here acts = record {
    begun = state_at script table from;
    n = book.at;
    found = ready.found;
    step = record { accepted = ready.accepted; here = here; acts = acts };
    stands = ready.stands;
  }

  test_of : (x : Statement) → slice_get script.statements.items book.at ≡ Some x → (t : Test) (a : Order) → x.act ≡ a → IsActingTest (setting script table) s a
      → IsOfTest book.planner t a → IsTestOf (setting script table) s (cells_after plan) t a
  test_of x here t (When name sign value count) is acts of = (
    acts.0,
    acts.1,
    of.0,
    of.1,
    reference_held (at_test x here acts.0) name sign value count is acts.1 (cells_after plan) t.at done.contents of.2,
  )
  test_of x here t a is acts of = absurd acts

  ends : (o : Option Statement) → slice_get script.statements.items book.at ≡ o → IsStop (setting script table) s o → (t : Option Test)
      → IsTestFor book.planner o t → EndsBy (setting script table) s (cells_after plan) o t
  ends None e stop None h = tt
  ends None e stop (Some t) h = absurd h
  ends (Some x) e stop None h = absurd h
  ends (Some x) e stop (Some t) h = test_of x e t x.act refl stop h

  inside_of : (x : Statement) → slice_get script.statements.items book.at ≡ Some x → (t : Test) (a : Order) → x.act ≡ a
      → IsActingTest (setting script table) s a → IsOfTest book.planner t a → t.at.start < plan.cells
  inside_of x here t (When name sign value count) is acts of =
      reference_inside (at_test x here acts.0) name sign value count is acts.1 plan.cells t.at (finished.within (at_end ready)) of.2
  inside_of x here t a is acts of = absurd acts

  inside : (o : Option Statement) → slice_get script.statements.items book.at ≡ o → IsStop (setting script table) s o → (t : Test)
      → IsTestFor book.planner o (Some t) → t.at.start < plan.cells
  inside None e stop t h = absurd h
  inside (Some x) e stop t h = inside_of x e t x.act refl stop h

  there_too : (o : Option Statement) (t : Option Test) → IsTestFor book.planner o t → IsSome t → IsSome o
  there_too None None h some = some
  there_too None (Some t) h some = absurd h
  there_too (Some x) t h some = refl

  handed_out : (o : Option Statement) → slice_get script.statements.items book.at ≡ o → IsStop (setting script table) s o → IsSome o
      → IsHandedOut after plan script table book.at (cells_after plan) plan.cells
  handed_out None e stop some = absurd (not_both some refl)
  handed_out (Some x) e stop some = record {
    accepted = ready.accepted;
    within = ready.within;
    at = refl;
    test = x;
    here = e;
    acts = stop;
    old = book.planner;
    begun = state_at script table from;
    found = ready.found;
    stood = ready.stands;
    ranges = λ starts same. (ready.grown starts same).ranges;
    emptied = emptied;
    works = ap (λ (k : Planner). k.world.works.items) emptied.rest ∙ ready.works;
    kernels = finished.kernels;
    codes = finished.codes;
    names = names;
    held = done.contents;
    len_is = finished.cells ∙ ap (λ (k : Planner). peak_of k.world.store) (sym emptied.rest);
  }

  is_at : (n : ℕ) → from < n → IsHandedOut after plan script table n (cells_after plan) plan.cells
      → (back : SectionBook) → IsTakenBack after plan back → IsAt back script table n (cells_after plan) plan.cells
  is_at zero lt h back taken = absurd (omega arith)
  is_at (suc n) lt h back taken = record { before = after; plan = plan; handed_out = h; taken_back = taken }

  pub is_next : IsNext (record { planner = new; small_jobs = book.small_jobs; at = book.at; names = none; spare = book.spare }) script table from
      (record { plan = plan; jobs_before = book.planner.world.jobs_before; small_jobs = book.small_jobs; test = test })
  is_next = record {
    to = book.at;
    place = refl;
    is_section = record {
      rising = (ready.rising, ready.inside);
      between = ready.between;
      well_ordered = done.well_ordered;
      names = names;
      jobs_before = ready.stands.numbers.before;
      lines = done.lines;
      refused = done.refused;
      traps = done.traps ∙ ap (λ k. (state_at script table from).traps ++ map (renumbered k) (plan_traps plan)) (sym ready.stands.numbers.before);
      laid_out = laid_out;
      test = ends (slice_get script.statements.items book.at) refl ready.stops test tests;
    };
    small_jobs = refl;
    inside = λ t e. inside (slice_get script.statements.items book.at) refl ready.stops t
        (subst (IsTestFor book.planner (slice_get script.statements.items book.at)) e tests);
    binds = λ name low.
        subst (IsBindAt s (cells_after plan) plan.cells name) (ap (λ (k : Planner). bind_named k name) (sym emptied.rest))
        (bound (at_end ready) name low (cells_after plan) plan.cells done.contents (finished.within (at_end ready)));
    later = λ some. ready.later (there_too (slice_get script.statements.items book.at) test tests some);
    at = λ some.
        let here = there_too (slice_get script.statements.items book.at) test tests some in
        is_at book.at (ready.later here) (handed_out (slice_get script.statements.items book.at) refl ready.stops here);
  }

-- ---- the limits

-- what was found of them before the run
abbrev pub IsAsked : Script → Table → Type 0
IsAsked script table =
    ((list_any (λ (x : Statement). is_when x.act) script.statements.items ≡ true) × (limit_by_text (setting script table) script.statements.items 0 0 ≡ None))
    ⊎ (list_any (λ (x : Statement). is_when x.act) script.statements.items ≡ false)

pub limit_is : (script : Script) (table : Table) (b : Bool) → list_any (λ (x : Statement). is_when x.act) script.statements.items ≡ b
    → limit_of (setting script table) script.statements.items ≡ (if b then limit_by_text (setting script table) script.statements.items 0 0 else limit_by_run
    (setting script table) script.statements.items at_start)
limit_is script table b e = ap (λ b. if b then limit_by_text (setting script table) script.statements.items 0 0 else limit_by_run
    (setting script table) script.statements.items at_start) e

pub limit_fails : (script : Script) (table : Table) (fault : PlanFault) → IsAsked script table → PassesOnce fault script table
    → (fault ≡ NoMemory) ⊎ (limit_of (setting script table) script.statements.items ≡ limit_told fault)
limit_fails script table fault (inl h) p = inl (text_passes_none script table fault h.1 p)
limit_fails script table fault (inr none) p = ⊎_elim inl (λ e. inr (limit_is script table false none ∙ e)) (script_run_passes script table fault p)

-- without a `when` a section ends at the script's end
pub no_test : (xs : List Statement) (n : ℕ) (x : Statement) → list_any (λ (x : Statement). is_when x.act) xs ≡ false → slice_get xs n ≡ Some x
    → is_when x.act ≡ false
no_test [] n x none e = absurd (none_some e)
no_test (y ∷ more) zero x none e = subst (λ (k : Statement). is_when k.act ≡ false) (some_is e)
    (or_false_left (is_when y.act) (list_any (λ (x : Statement). is_when x.act) more) none)
no_test (y ∷ more) (suc n) x none e = no_test more n x (or_false_right (is_when y.act) (list_any (λ (x : Statement). is_when x.act) more) none) e

take_all : (xs : List Statement) (n : ℕ) → slice_get xs n ≡ None → take n xs ≡ xs
take_all [] zero e = refl
take_all [] (suc n) e = refl
take_all (x ∷ xs) zero e = absurd (none_some (sym e))
take_all (x ∷ xs) (suc n) e = ap (λ l. x ∷ l) (take_all xs n e)

pub whole_run : (script : Script) (table : Table) (n : ℕ) → list_any (λ (x : Statement). is_when x.act) script.statements.items ≡ false
    → IsStop (setting script table) (state_at script table n) (slice_get script.statements.items n) → take n script.statements.items ≡ script.statements.items
whole_run script table n none stop = by (slice_get script.statements.items n) refl stop
  where
    by : (o : Option Statement) → slice_get script.statements.items n ≡ o → IsStop (setting script table) (state_at script table n) o
        → take n script.statements.items ≡ script.statements.items
    by None e stop = take_all script.statements.items n e
    by (Some x) e stop = absurd (not_both (not_test (setting script table) (state_at script table n) x.act stop) (no_test script.statements.items n x none e))

pub limit_none : (script : Script) (table : Table) (n : ℕ) → IsAsked script table
    → IsStop (setting script table) (state_at script table n) (slice_get script.statements.items n) → IsWithin (state_at script table n)
    → limit_of (setting script table) script.statements.items ≡ None
limit_none script table n (inl h) stop w = limit_is script table true h.0 ∙ h.1
limit_none script table n (inr none) stop w =
    limit_is script table false none
    ∙ run_none (setting script table) script.statements.items at_start (subst (λ xs. IsWithin (act_all (setting script table) xs at_start))
    (whole_run script table n none stop) w)

-- the first statement isn't a test that acts
pub first_later : (script : Script) (table : Table) → IsAccepted script → (n : ℕ)
    → IsStop (setting script table) (state_at script table n) (slice_get script.statements.items n) → IsSome (slice_get script.statements.items n) → 0 < n
first_later script table accepted (suc n) stop some = omega arith
first_later script table accepted zero stop some = by (slice_get script.statements.items 0) refl stop some
  where
    no : (x : Statement) → slice_get script.statements.items 0 ≡ Some x → (a : Order) → x.act ≡ a
        → IsActingTest (setting script table) (state_at script table 0) a → 0 < 0
    no x e (When name sign value count) is h = absurd (first_is_none script table accepted x e name sign value count is)
    no x e a is h = absurd h

    by : (o : Option Statement) → slice_get script.statements.items 0 ≡ o → IsStop (setting script table) (state_at script table 0) o → IsSome o → 0 < 0
    by None e stop some = absurd (not_both some refl)
    by (Some x) e stop some = no x e x.act refl stop

-- ---- a script without a `when`

taken_long : {A : Type 0} (n : ℕ) (xs : List A) → length (take n xs) ≤ n
taken_long zero xs = omega arith
taken_long (suc n) [] = omega arith
taken_long (suc n) (x ∷ xs) = let h = taken_long n xs in omega arith

same_numbers : (ts : List JobTrap) → map (renumbered 0) ts ≡ ts
same_numbers [] = refl
same_numbers (t ∷ ts) =
    let z : 0 + t.job ≡ t.job = omega arith in
    λ i. record t { job = z i } ∷ same_numbers ts i

pub plan_is : (script : Script) (table : Table) (book : SectionBook) (section : Section)
    → list_any (λ (x : Statement). is_when x.act) script.statements.items ≡ false → IsNext book script table 0 section → section.small_jobs ≡ Cut
    → IsPlanOf script table section.plan
plan_is script table book section none n cut =
    let o = n.is_section in
    let whole : take n.to script.statements.items ≡ script.statements.items = all (slice_get script.statements.items n.to) refl section.test o.test in
    let last : state_at script table n.to ≡ act_all (setting script table) script.statements.items at_start =
    ap (λ xs. act_all (setting script table) xs at_start) whole in
    record {
      well_ordered = o.well_ordered;
      lines = sym (ap (λ (s : ScriptState). s.lines) last) ∙ o.lines;
      refused = sym (ap (λ (s : ScriptState). s.refused) last) ∙ o.refused
          ∙ (let z : 0 + plan_refused section.plan ≡ plan_refused section.plan = omega arith in z);
      traps = sym (ap (λ (s : ScriptState). s.traps) last) ∙ o.traps ∙ ap (λ k. map (renumbered k) (plan_traps section.plan)) o.jobs_before
          ∙ same_numbers (plan_traps section.plan);
      laid_out = subst (λ k. IsLaidOut script table Cut 0 k section.plan)
          (let e = ap length whole in let few = taken_long n.to script.statements.items in let le = o.rising.1 in omega arith)
          (subst (λ small. IsLaidOut script table small 0 n.to section.plan) cut o.laid_out);
    }
  where
    is_test : (x : Statement) (t : Test) (a : Order) → IsTestOf (setting script table) (state_at script table n.to) (cells_after section.plan) t a
        → is_when a ≡ true
    is_test x t (When name sign value count) h = refl
    is_test x t a h = absurd h

    all : (o : Option Statement) → slice_get script.statements.items n.to ≡ o → (t : Option Test)
        → EndsBy (setting script table) (state_at script table n.to) (cells_after section.plan) o t
        → take n.to script.statements.items ≡ script.statements.items
    all None e t h = take_all script.statements.items n.to e
    all (Some x) e None h = absurd h
    all (Some x) e (Some t) h = absurd (not_both (is_test x t x.act h) (no_test script.statements.items n.to x none e))
