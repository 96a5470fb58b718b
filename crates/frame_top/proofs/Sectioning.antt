-- One section more.
use Rattle.std.proofs.Common.{◌≡◌, refl, sym, ap, ◌∙◌, subst, ℕ, zero, suc, ◌+◌, ◌*◌, ◌<◌, ◌≤◌, ◌^◌, Bool, true, false, ℤ, List, [], ◌∷◌, ◌++◌, length, map, Option, None, Some, IsSome, Result, Ok, Err, length-append, arith}
use Rattle.std.specs.Prelude.{slice_get, IfOk}
use Rattle.std.proofs.lemmas.Bool.{leb-true}
use Rattle.std.proofs.lemmas.List.{length-map}
use Rattle.job_base.specs.declared.limits.TheConstants.{MOST_INDEXES, MOST_STATEMENTS, MOST_TESTS}
use Rattle.job_base.specs.Cells.{cells_of}
use Rattle.job_base.specs.declared.NoMemory.{NoMemory}
use Rattle.frame_ast.specs.declared.script.Order.{Order}
use Rattle.frame_ast.specs.declared.script.Order.TheVariants.{Array, Column, List as NewList, Reference, Map, Stream, Slice, View, Copy, Set, Add, Put, Remove, Clear, SetCapacity, Schedule, Combine, Complete, CompleteAuto, Dispose, DisposeAuto, Print, Flush, Frame, When}
use Rattle.frame_ast.specs.declared.script.Script.{Script}
use Rattle.frame_ast.specs.declared.script.Statement.{Statement}
use Rattle.frame_ast.specs.Accepted.{IsAccepted, is_when}
use Rattle.frame_ast.specs.Arguments.{value_in}
use Rattle.frame_ast.specs.Orders.{Table, setting, compares}
use Rattle.frame_ast.specs.States.{JobTrap, ScriptState, contents_at}
use Rattle.frame_core.specs.declared.plan.Plan.{Plan}
use Rattle.frame_core.specs.Graphs.{cells_after}
use Rattle.frame_core.specs.Output.{plan_lines, plan_traps}
use Rattle.frame_core.specs.declared.report.Report.{Report}
use Rattle.frame_core.specs.Reports.{IsReportOf}
use Rattle.plan_run.specs.Runs.{IsReport}
use Rattle.plan_run.specs.Says.{SaysTo}
use Rattle.steal_pool.specs.Sections.{shifted, ReportsAreWithin}
use Rattle.plan_laws.specs.Planned.{renumbered}
use Rattle.frame_plan.specs.declared.section.Section.{Section}
use Rattle.frame_plan.specs.declared.section.Test.{Test}
use Rattle.frame_plan.specs.declared.sections.SectionBook.{SectionBook}
use Rattle.frame_plan.specs.Sections.{IsSectionOf, IsTakenBack, IsTestOf, EndsBy, IsOutcome, AreLeft, IsNext, outcome_by, outcome_of, place_of}
use Rattle.plan_state.specs.Steps.{state_at}
use Rattle.frame_top.specs.declared.section.SectionRun.{SectionRun}
use Rattle.frame_top.specs.declared.sections.Progress.{Progress}
use Rattle.frame_top.specs.Cells.{AreCellsOf, HasRunPlan}
use Rattle.frame_top.specs.Running.{IsReportAt, IsFew, IsMade, tests_before, GoesOn, HasRun, RunsOn}
use Rattle.frame_top.proofs.Growing.{jobs_few}
use Rattle.frame_top.proofs.Whens.{tests_rise, tests_whole, tests_here}

-- REPORTS

-- two ways to number the jobs of a section
pub renumbered_are_shifted : (before : ℕ) (ts : List JobTrap) → map (renumbered before) ts ≡ shifted before ts
renumbered_are_shifted before [] = refl
renumbered_are_shifted before (t ∷ ts) =
    let same : before + t.job ≡ t.job + before = omega arith in
    λ i. record { job = same i; index = t.index; trap = t.trap } ∷ renumbered_are_shifted before ts i

-- what the next section adds
module _ (script : Script) (table : Table) (from to : ℕ) (section : Section) (is : IsSectionOf script table from to section) where
  pub traps_joined : (state_at script table to).traps ≡ (state_at script table from).traps ++ shifted section.jobs_before (plan_traps section.plan)
  traps_joined = is.traps ∙ ap (λ ts. (state_at script table from).traps ++ ts) (renumbered_are_shifted section.jobs_before (plan_traps section.plan))

  pub joined_at : (earlier added joined : Report) → IsReportAt (state_at script table from) earlier → IsReport section.plan added
      → ((a b : List JobTrap) → IsReportOf a earlier → IsReportOf b added → IsReportOf (a ++ shifted section.jobs_before b) joined)
      → joined.refused ≡ earlier.refused + added.refused
      → IsReportAt (state_at script table to) joined
  joined_at earlier added joined was run traps refused = record {
    traps = subst (λ ts. IsReportOf ts joined) (sym traps_joined) (traps (state_at script table from).traps (plan_traps section.plan) was.traps run.traps);
    refused = refused ∙ (let a = was.refused in let b = run.refused in let c = is.refused in omega arith);
  }

  -- a section's report is small
  pub added_few : (added : Report) → ReportsAreWithin → IsReport section.plan added → (added.traps ≤ MOST_INDEXES * 2 ^ 32) × (added.refused ≤ 2 ^ 32)
  added_few added law run =
      let w = law section.plan added is.well_ordered run in
      let pieces = is.well_ordered.sized.pieces in
      let most = w.traps in
      let none = w.refused in
      (omega arith, omega arith)

  pub job_fits : IsAccepted script → (added : Report) → ReportsAreWithin → IsReport section.plan added → 0 < added.traps
      → added.job.0 + section.jobs_before < 2 ^ 32
  job_fits accepted added law run some =
      let w = (law section.plan added is.well_ordered run).job some in
      let jobs = is.well_ordered.sized.jobs in
      let before = is.jobs_before in
      let few = jobs_few script table from in
      let statements : length script.statements.items ≤ MOST_STATEMENTS = leb-true (length script.statements.items) MOST_STATEMENTS accepted.statement_count in
      omega arith

pub joined_few : (sections : ℕ) (earlier added joined : Report) (a b : List JobTrap) (before : ℕ) → IsFew sections earlier
    → (added.traps ≤ MOST_INDEXES * 2 ^ 32) × (added.refused ≤ 2 ^ 32)
    → IsReportOf a earlier → IsReportOf b added → IsReportOf (a ++ shifted before b) joined → joined.refused ≡ earlier.refused + added.refused
    → IsFew (suc sections) joined
joined_few sections earlier added joined a b before few small x y z e =
    let xs = x.number in
    let ys = y.number in
    let zs = z.number in
    let lengths = length-append a (shifted before b) in
    let same : length (shifted before b) ≡ length b = length-map b (λ (t : JobTrap). record t { job = t.job + before }) in
    let ft = few.traps in
    let fr = few.refused in
    let st = small.0 in
    let sr = small.1 in
    record { traps = omega arith; refused = omega arith }

-- THE TEST

test_is_when : (script : Script) (table : Table) (s : ScriptState) (cells : _) (test : Test) (x : Order) → IsTestOf (setting script table) s cells test x
    → is_when x ≡ true
test_is_when script table s cells test (When name sign value count) h = refl
test_is_when script table s cells test (Array name len life values) h = absurd h
test_is_when script table s cells test (Column name column life) h = absurd h
test_is_when script table s cells test (NewList name cap life) h = absurd h
test_is_when script table s cells test (Reference name life value) h = absurd h
test_is_when script table s cells test (Map name cap life) h = absurd h
test_is_when script table s cells test (Stream name count room life) h = absurd h
test_is_when script table s cells test (Slice name of start len) h = absurd h
test_is_when script table s cells test (View name of) h = absurd h
test_is_when script table s cells test (Copy name of) h = absurd h
test_is_when script table s cells test (Set name at value) h = absurd h
test_is_when script table s cells test (Add name first second) h = absurd h
test_is_when script table s cells test (Put name key value) h = absurd h
test_is_when script table s cells test (Remove name at) h = absurd h
test_is_when script table s cells test (Clear name) h = absurd h
test_is_when script table s cells test (SetCapacity name cap) h = absurd h
test_is_when script table s cells test (Schedule job) h = absurd h
test_is_when script table s cells test (Combine name of) h = absurd h
test_is_when script table s cells test (Complete name) h = absurd h
test_is_when script table s cells test (CompleteAuto name) h = absurd h
test_is_when script table s cells test (Dispose name after handle) h = absurd h
test_is_when script table s cells test (DisposeAuto name handle) h = absurd h
test_is_when script table s cells test (Print name) h = absurd h
test_is_when script table s cells test Flush h = absurd h
test_is_when script table s cells test Frame h = absurd h

test_outcome : (script : Script) (table : Table) (s : ScriptState) (cells : ℕ → ℤ) (test : Test) (x : Order) → is_when x ≡ true
    → IsTestOf (setting script table) s cells test x → compares test.sign (cells test.at.start) test.bound ≡ outcome_of s x
test_outcome script table s cells test (When name sign value count) w h =
    let holds = h.4 in
    let number : cells test.at.start ≡ value_in (contents_at s name) = sym (ap value_in holds) in
    λ i. compares (h.2 i) (number i) (h.3 i)
test_outcome script table s cells test (Array name len life values) w h = absurd h
test_outcome script table s cells test (Column name column life) w h = absurd h
test_outcome script table s cells test (NewList name cap life) w h = absurd h
test_outcome script table s cells test (Reference name life value) w h = absurd h
test_outcome script table s cells test (Map name cap life) w h = absurd h
test_outcome script table s cells test (Stream name count room life) w h = absurd h
test_outcome script table s cells test (Slice name of start len) w h = absurd h
test_outcome script table s cells test (View name of) w h = absurd h
test_outcome script table s cells test (Copy name of) w h = absurd h
test_outcome script table s cells test (Set name at value) w h = absurd h
test_outcome script table s cells test (Add name first second) w h = absurd h
test_outcome script table s cells test (Put name key value) w h = absurd h
test_outcome script table s cells test (Remove name at) w h = absurd h
test_outcome script table s cells test (Clear name) w h = absurd h
test_outcome script table s cells test (SetCapacity name cap) w h = absurd h
test_outcome script table s cells test (Schedule job) w h = absurd h
test_outcome script table s cells test (Combine name of) w h = absurd h
test_outcome script table s cells test (Complete name) w h = absurd h
test_outcome script table s cells test (CompleteAuto name) w h = absurd h
test_outcome script table s cells test (Dispose name after handle) w h = absurd h
test_outcome script table s cells test (DisposeAuto name handle) w h = absurd h
test_outcome script table s cells test (Print name) w h = absurd h
test_outcome script table s cells test Flush w h = absurd h
test_outcome script table s cells test Frame w h = absurd h

-- the statement at which a section with a test ends
pub record EndsAt (script : Script) (table : Table) (to : ℕ) (cells : ℕ → ℤ) (test : Test) : Type 0 where
  pub x : Statement
  pub here : slice_get script.statements.items to ≡ Some x
  pub is_when : is_when x.act ≡ true
  pub outcome : compares test.sign (cells test.at.start) test.bound ≡ outcome_by (state_at script table to) (slice_get script.statements.items to)

ends_by : (script : Script) (table : Table) (to : ℕ) (cells : ℕ → ℤ) (test : Test) (o : Option Statement) → slice_get script.statements.items to ≡ o
    → EndsBy (setting script table) (state_at script table to) cells o (Some test) → EndsAt script table to cells test
ends_by script table to cells test None e h = absurd h
ends_by script table to cells test (Some x) e h =
    let w = test_is_when script table (state_at script table to) cells test x.act h in record {
      x = x;
      here = e;
      is_when = w;
      outcome = test_outcome script table (state_at script table to) cells test x.act w h ∙ ap (λ o. outcome_by (state_at script table to) o) (sym e);
    }

pub ends_at : (script : Script) (table : Table) (from to : ℕ) (section : Section) (test : Test) → IsSectionOf script table from to section
    → section.test ≡ Some test → EndsAt script table to (cells_after section.plan) test
ends_at script table from to section test is e =
    ends_by script table to (cells_after section.plan) test (slice_get script.statements.items to) refl
    (subst (λ t. EndsBy (setting script table) (state_at script table to) (cells_after section.plan) (slice_get script.statements.items to) t) e is.test)

past : {A : Type 0} (xs : List A) (n : ℕ) → slice_get xs n ≡ None → length xs ≤ n
past [] n e = omega arith
past (x ∷ xs) zero e = absurd cc
past (x ∷ xs) (suc n) e = let rest = past xs n e in omega arith

ends_none : (script : Script) (table : Table) (to : ℕ) (cells : ℕ → ℤ) (o : Option Statement) → slice_get script.statements.items to ≡ o
    → EndsBy (setting script table) (state_at script table to) cells o None → slice_get script.statements.items to ≡ None
ends_none script table to cells None e h = e
ends_none script table to cells (Some x) e h = absurd h

pub ends_last : (script : Script) (table : Table) (from to : ℕ) (section : Section) → IsSectionOf script table from to section → section.test ≡ None
    → to ≡ length script.statements.items
ends_last script table from to section is e =
    let none = ends_none script table to (cells_after section.plan) (slice_get script.statements.items to) refl
    (subst (λ t. EndsBy (setting script table) (state_at script table to) (cells_after section.plan) (slice_get script.statements.items to) t) e is.test) in
    let low = past script.statements.items to none in
    let high = is.rising.1 in
    omega arith

-- THE NEXT SECTION

outcome_at : (script : Script) (table : Table) (from to : ℕ) (held : Option Bool) → from < to
    → held ≡ Some (outcome_by (state_at script table to) (slice_get script.statements.items to)) → IsOutcome script table to held
outcome_at script table from zero held l e = absurd (omega (arith, l))
outcome_at script table from (suc to) held l e = e

-- the book, the cells and the report after a section that ended at a test
pub runs_on : (script : Script) (table : Table) (sections from : ℕ) (book : SectionBook) (section : Section) (next : IsNext book script table from section)
    (test : Test) → section.test ≡ Some test → (after : SectionBook) → IsTakenBack book section.plan after
    → sections ≤ tests_before script (suc from)
    → (p : Progress) (left : List ℤ) → AreCellsOf section.plan left → p.cells ≡ left
    → p.held ≡ Some (compares test.sign (cells_of left test.at.start) test.bound)
    → IsReportAt (state_at script table next.to) p.report → IsFew (suc sections) p.report
    → HasRun script table (suc sections) next.to after p
runs_on script table sections from book section next test e after taken tests p left cells same held report few =
    let some : IsSome section.test = subst IsSome (sym e) refl in
    let is = next.is_section in
    let sized = is.well_ordered.sized in
    let words_are = sized.words_are in
    let size = cells.size in
    let at_test = ends_at script table from next.to section test is e in
    let inside = next.inside test e in
    let low : test.at.start < section.plan.words = omega arith in
    let later = next.later some in
    let rise = tests_rise (λ (x : Statement). is_when x.act) (suc from) next.to script.statements.items (omega (arith, later)) in
    let one = tests_here (λ (x : Statement). is_when x.act) next.to script.statements.items at_test.x at_test.here at_test.is_when in
    record {
      carried = cells_after section.plan;
      len = section.plan.cells;
      at = next.at some after taken;
      outcome = outcome_at script table from next.to p.held later (held ∙ ap (λ z. Some (compares test.sign z test.bound)) (cells.each test.at.start low)
          ∙ ap Some at_test.outcome);
      left = subst (λ m. AreLeft m (cells_after section.plan) section.plan.cells) (sym same) (omega arith, λ w l. cells.each w (omega arith));
      report = report;
      few = few;
      tests = omega arith;
      begins = λ z. absurd (omega (arith, z));
    }

-- what was made for the frame so far
pub made_of : (script : Script) (table : Table) (sections from : ℕ) (old book : SectionBook) (p : Progress) (r : Result Section NoMemory)
    → HasRun script table sections from old p → IfOk r (IsNext book script table from)
    → IfOk r (λ section. IsMade script table sections from book section p.report)
made_of script table sections from old book p (Ok section) was next = record { next = next; report = was.report; few = was.few; tests = was.tests }
made_of script table sections from old book p (Err fault) was next = next

-- what one section more comes to, whether a test follows or not
module _ (script : Script) (table : Table) (sections from : ℕ) (book : SectionBook) (before : Report) (section : Section) (r : SectionRun) (joined : Report)
    (law : ReportsAreWithin) (made : IsMade script table sections from book section before) (ran : IsReport section.plan r.report)
    (traps : (a b : List JobTrap) → IsReportOf a before → IsReportOf b r.report → IsReportOf (a ++ shifted section.jobs_before b) joined)
    (refused : joined.refused ≡ before.refused + r.report.refused) where
  next : IsNext book script table from section
  next = made.next

  is : IsSectionOf script table from next.to section
  is = next.is_section

  report_at : IsReportAt (state_at script table next.to) joined
  report_at = joined_at script table from next.to section is before r.report joined made.report ran traps refused

  few : IsFew (suc sections) joined
  few = joined_few sections before r.report joined (state_at script table from).traps (plan_traps section.plan) section.jobs_before made.few
      (added_few script table from next.to section is r.report law ran)
      made.report.traps ran.traps (traps (state_at script table from).traps (plan_traps section.plan) made.report.traps ran.traps) refused

  pub section_last : (q : Progress) → q.report ≡ joined → section.test ≡ None → GoesOn script table sections from (plan_lines section.plan) book q false
  section_last q report none = record {
    to = next.to;
    place = next.place;
    lines_are = is.lines;
    report = subst (IsReportAt (state_at script table next.to)) (sym report) report_at;
    next = λ e. absurd cc;
    last = λ e. ends_last script table from next.to section is none;
  }

  pub section_more : (q : Progress) (test : Test) → q.report ≡ joined → section.test ≡ Some test → AreCellsOf section.plan r.left
      → q.cells ≡ r.left → (after : SectionBook) → IsTakenBack book section.plan after
      → q.held ≡ Some (compares test.sign (cells_of r.left test.at.start) test.bound)
      → GoesOn script table sections from (plan_lines section.plan) after q true
  section_more q test report some left cells after taken held = record {
    to = next.to;
    place = ap place_of taken ∙ next.place;
    lines_are = is.lines;
    report = subst (IsReportAt (state_at script table next.to)) (sym report) report_at;
    next = λ e. runs_on script table sections from book section next test some after taken made.tests q r.left left cells held
        (subst (IsReportAt (state_at script table next.to)) (sym report) report_at) (subst (IsFew (suc sections)) (sym report) few);
    last = λ e. absurd cc;
  }

-- and its lines were said
pub said_on : {S : Type 0} (taken : S → Option (List ℕ)) (faults : S → ℕ) (script : Script) (table : Table) (sections from : ℕ) (book : SectionBook)
    (p q : Progress) (more : Bool) (plan : Plan) (keeps : Bool) (old new : S) (waited waits : List ℕ) (failed : Bool) (r : SectionRun)
    → GoesOn script table sections from (plan_lines plan) book q more → HasRunPlan taken faults plan keeps old waited failed new waits r
    → waited ≡ p.out → failed ≡ p.failed → q.out ≡ waits → q.failed ≡ r.failed
    → RunsOn taken faults script table sections from old p new book q more
said_on taken faults script table sections from book p q more plan keeps old new waited waits failed r goes run before was after is = record {
  lines = plan_lines plan;
  goes = goes;
  said = subst (λ b. SaysTo taken faults old p.out p.failed new q.out b (plan_lines plan)) (sym is)
      (subst (λ w. SaysTo taken faults old p.out p.failed new w r.failed (plan_lines plan)) (sym after)
      (subst (λ b. SaysTo taken faults old p.out b new waits r.failed (plan_lines plan)) was
      (subst (λ w. SaysTo taken faults old w failed new waits r.failed (plan_lines plan)) before run.lines)));
}

-- so many sections can't end at another `when`
pub too_many : (script : Script) (from : ℕ) → IsAccepted script → suc MOST_TESTS ≤ tests_before script (suc from) → ⊥
too_many script from accepted many =
    let most : Rattle.std.specs.Prelude.count_by (λ (x : Statement). is_when x.act) script.statements.items ≤ MOST_TESTS =
    leb-true (Rattle.std.specs.Prelude.count_by (λ (x : Statement). is_when x.act) script.statements.items) MOST_TESTS accepted.when_count in
    let whole = tests_whole (λ (x : Statement). is_when x.act) (suc from) script.statements.items in
    omega arith
