-- What a section of a script promises.
--
-- A section goes from one place among the statements to another: to the next `when` that is neither refused nor passed
-- by, or to the script's end. That `when` is the first statement of the section after it. A script without a `when` is
-- one section.
use Rattle.std.specs.Prelude.{ℕ, zero, suc, ◌+◌, ◌≡◌, ◌<◌, ◌≤◌, Bool, true, false, ℤ, List, ◌++◌, length, map, get_or, Option, None, Some, IsSome, slice_get}
use Rattle.job_base.specs.Cells.{cells_of}
use Rattle.frame_ast.specs.declared.script.Order.{Order}
use Rattle.frame_ast.specs.declared.script.Order.TheVariants.{When}
use Rattle.frame_ast.specs.declared.script.Script.{Script}
use Rattle.frame_ast.specs.declared.script.Statement.{Statement}
use Rattle.frame_ast.specs.Accepted.{IsAccepted}
use Rattle.frame_ast.specs.Arguments.{value_in}
use Rattle.frame_ast.specs.Checks.{refusal}
use Rattle.frame_ast.specs.Limits.{Limit, TooManyJobs, TooManyWords, limit_of}
use Rattle.frame_ast.specs.Orders.{Table, Setting, setting, compares}
use Rattle.frame_ast.specs.Ranges.{Starts}
use Rattle.frame_ast.specs.Scripts.{final}
use Rattle.frame_ast.specs.States.{ScriptState, contents_at}
use Rattle.kernel_exec.specs.declared.binds.Bind.TheVariants.{Ref}
use Rattle.kernel_exec.specs.Layout.{Holds}
use Rattle.merge_laws.specs.Graph.{Cells}
use Rattle.slot_store.specs.Stores.{peak_of}
use Rattle.frame_core.specs.declared.plan.Plan.{Plan}
use Rattle.frame_core.specs.Graphs.{cells_after}
use Rattle.frame_core.specs.Ordered.{IsWellOrderedPlan}
use Rattle.frame_core.specs.Output.{plan_lines, plan_refused, plan_traps}
use Rattle.plan_laws.specs.Leaving.{AllHeld}
use Rattle.plan_laws.specs.Planned.{renumbered}
use Rattle.frame_plan.specs.declared.section.Section.{Section}
use Rattle.frame_plan.specs.declared.section.Test.{Test}
use Rattle.frame_plan.specs.declared.sections.SectionBook.{SectionBook}
use Rattle.frame_plan.specs.declared.small_jobs.SmallJobs.{SmallJobs}
use Rattle.frame_plan.specs.declared.small_jobs.SmallJobs.TheVariants.{Cut}
use Rattle.plan_state.specs.declared.state.PlanFault.{PlanFault}
use Rattle.plan_state.specs.declared.state.PlanFault.TheVariants.{Jobs, Words, NoMemory}
use Rattle.plan_state.specs.declared.state.Planner.{Planner}
use Rattle.plan_state.specs.Growth.{StartAs}
use Rattle.frame_plan.specs.Bindings.{IsBindAt, bind_in}
use Rattle.frame_plan.specs.Layouts.{IsLaidOut, HasRanges, HasGrown}
use Rattle.frame_plan.specs.Names.{AreNamesOf}
use Rattle.frame_plan.specs.Runs.{IsActingTest, IsStop, NoneActs, IsEmptied}
use Rattle.plan_state.specs.Steps.{state_at, StandsAt}
use Rattle.frame_plan.specs.Works.{works_by}

-- THE LIMITS

-- which limit of the language a fault is about; want of memory is about none
abbrev pub limit_told : PlanFault → Option Limit
limit_told Jobs = Some TooManyJobs
limit_told Words = Some TooManyWords
limit_told NoMemory = None

-- THE TEST AT A SECTION'S END

-- The statement is a `when` that acts, with the sign and the number of the test, and the cells after the section hold
-- the value of its reference.
abbrev pub IsTestOf : Setting → ScriptState → Cells → Test → Order → Type 0
IsTestOf g s cells test (When name sign value count) =
    (s.passing ≡ 0)
    × (refusal g s (When name sign value count) ≡ None)
    × (test.sign ≡ sign)
    × (test.bound ≡ value)
    × Holds cells (Ref test.at) (contents_at s name)
IsTestOf g s cells test _ = ⊥

-- there is a test where a statement follows, and none at the end
abbrev pub EndsBy : Setting → ScriptState → Cells → Option Statement → Option Test → Type 0
EndsBy g s cells None None = Unit {0}
EndsBy g s cells None (Some test) = ⊥
EndsBy g s cells (Some x) None = ⊥
EndsBy g s cells (Some x) (Some test) = IsTestOf g s cells test x.act

-- A SECTION from one place to another: its plan is well ordered, and gives in the run in script order what the script
-- adds to its output between the two. Its jobs are numbered anew.
pub record IsSectionOf (script : Script) (table : Table) (from to : ℕ) (section : Section) : Type 0 where
  pub rising : (from ≤ to) × (to ≤ length script.statements.items)
  -- it goes past no `when` that acts
  pub between : NoneActs script table (suc from) to
  pub well_ordered : IsWellOrderedPlan section.plan
  pub names : AreNamesOf script section.plan.names
  pub jobs_before : section.jobs_before ≡ (state_at script table from).book.count
  pub lines : (state_at script table to).lines ≡ (state_at script table from).lines ++ plan_lines section.plan
  pub refused : (state_at script table to).refused ≡ (state_at script table from).refused + plan_refused section.plan
  pub traps : (state_at script table to).traps
      ≡ (state_at script table from).traps ++ map (renumbered section.jobs_before) (plan_traps section.plan)
  -- its ranges, jobs and contents are those of the definitions
  pub laid_out : IsLaidOut script table section.small_jobs from to section.plan
  pub test : EndsBy (setting script table) (state_at script table to) (cells_after section.plan)
      (slice_get script.statements.items to) section.test

-- WHAT THE NEXT SECTION IS GIVEN

-- what a `when` tests, in the state before it
abbrev pub outcome_of : ScriptState → Order → Bool
outcome_of s (When name sign value count) = compares sign (value_in (contents_at s name)) value
outcome_of s _ = true

abbrev pub outcome_by : ScriptState → Option Statement → Bool
outcome_by s None = true
outcome_by s (Some x) = outcome_of s x.act

-- whether the test holds at which the last section ended; the first section has none before it
abbrev pub IsOutcome : Script → Table → ℕ → Option Bool → Type 0
IsOutcome script table zero held = held ≡ None
IsOutcome script table (suc n) held =
    held ≡ Some (outcome_by (state_at script table (suc n)) (slice_get script.statements.items (suc n)))

-- how many statements are passed by after a `when` that acts, by whether its test holds
abbrev pub passed_after : Bool → Order → ℕ
passed_after true x = 0
passed_after false (When name sign value count) = count
passed_after false _ = 0

-- the first cells of a memory are those that the last section left
abbrev pub AreLeft : List ℤ → Cells → ℕ → Type 0
AreLeft mem cells len = (len ≤ length mem) × ((w : ℕ) → w < len → cells_of mem w ≡ cells w)

-- WHERE A BOOK STANDS

-- how many statements it has gone through
abbrev pub place_of : SectionBook → ℕ
place_of book = book.at

-- how it cuts jobs of little work
abbrev pub small_jobs_of : SectionBook → SmallJobs
small_jobs_of book = book.small_jobs

-- It took back what this plan has copies of: the names, and the kernels with their codes. All else that it knows is as
-- it was; which memory it keeps that is needed no more, is its own affair.
abbrev pub IsTakenBack : SectionBook → Plan → SectionBook → Type 0
IsTakenBack old plan new = new ≡ record old {
  planner = record old.planner { draft = record old.planner.draft { kernels = plan.kernels; codes = plan.codes } };
  names = plan.names;
  spare = new.spare;
}

-- The section from a place on is planned, and wasn't handed out.
pub record IsPlannedFrom (book : SectionBook) (script : Script) (table : Table) (from : ℕ) : Type 0 where
  pub accepted : IsAccepted script
  pub within : limit_of (setting script table) script.statements.items ≡ None
  -- what it keeps of the work of kernels is as it cuts them
  pub works : book.planner.world.works.items ≡ works_by book.small_jobs script.kernels.items
  -- its plan can take these names over
  pub names : AreNamesOf script book.names
  pub found : List ℕ
  pub stands : StandsAt book.planner script table (state_at script table from) book.at found
  pub grown : (starts : Starts) → StartAs starts found → HasGrown script table starts book.planner from book.at
  pub rising : from ≤ book.at
  pub inside : book.at ≤ length script.statements.items
  pub stops : IsStop (setting script table) (state_at script table book.at)
      (slice_get script.statements.items book.at)
  pub between : NoneActs script table (suc from) book.at
  -- where it ends at a test, this is a later one
  pub later : IsSome (slice_get script.statements.items book.at) → from < book.at

-- The sections up to a test were handed out, the last one with this plan, and left these cells in so many words. The
-- planner is the one that stood there, without its plan; this one has its kernels, their codes and the names.
pub record IsHandedOut (book : SectionBook) (plan : Plan) (script : Script) (table : Table) (n : ℕ) (carried : Cells)
    (len : ℕ) : Type 0 where
  pub accepted : IsAccepted script
  pub within : limit_of (setting script table) script.statements.items ≡ None
  pub at : book.at ≡ n
  pub test : Statement
  pub here : slice_get script.statements.items n ≡ Some test
  pub acts : IsActingTest (setting script table) (state_at script table n) test.act
  pub old : Planner
  pub begun : ScriptState
  pub found : List ℕ
  pub stood : StandsAt old script table begun n found
  pub ranges : (starts : Starts) → StartAs starts found → HasRanges script table starts old n
  pub emptied : IsEmptied old book.planner
  pub works : book.planner.world.works.items ≡ works_by book.small_jobs script.kernels.items
  pub kernels : plan.kernels.items ≡ old.draft.kernels.items
  pub codes : plan.codes.items ≡ old.draft.codes.items
  pub names : AreNamesOf script plan.names
  pub held : AllHeld (λ k. get_or found k 0) (state_at script table n) carried
  pub len_is : len ≡ peak_of book.planner.world.store

-- The same, and the book took the plan back.
pub record IsBetween (book : SectionBook) (script : Script) (table : Table) (n : ℕ) (carried : Cells) (len : ℕ)
    : Type 0 where
  pub before : SectionBook
  pub plan : Plan
  pub handed_out : IsHandedOut before plan script table n carried len
  pub taken_back : IsTakenBack before plan book

-- The book is at a place among the statements: before the first section, or at the test at which the last one ended,
-- which left these cells in so many words, and whose plan it has taken back.
abbrev pub IsAt : SectionBook → Script → Table → ℕ → Cells → ℕ → Type 0
IsAt book script table zero carried len = IsPlannedFrom book script table 0
IsAt book script table (suc n) carried len = IsBetween book script table (suc n) carried len

-- The section that begins at a place, and the book afterwards.
pub record IsNext (book : SectionBook) (script : Script) (table : Table) (from : ℕ) (section : Section)
    : Type 0 where
  pub to : ℕ
  pub place : place_of book ≡ to
  pub is_section : IsSectionOf script table from to section
  -- jobs of little work are cut as the book says
  pub small_jobs : section.small_jobs ≡ small_jobs_of book
  -- where it ends at a test, this is of a word of the plan
  pub inside : (test : Test) → section.test ≡ Some test → test.at.start < section.plan.cells
  -- the book knows where the contents of each name lie that stands for a container then
  pub binds : (name : ℕ)
      → name < length script.names
      → IsBindAt (state_at script table to) (cells_after section.plan) section.plan.cells name (bind_in book name)
  -- it is a later one, and the book is there once it has taken the plan back
  pub later : IsSome section.test → from < to
  pub at : IsSome section.test
      → (after : SectionBook)
      → IsTakenBack book section.plan after
      → IsAt after script table to (cells_after section.plan) section.plan.cells

-- A SCRIPT WITHOUT A `when`

-- The plan is well ordered, and gives in the run in script order what the script gives.
pub record IsPlanOf (script : Script) (table : Table) (plan : Plan) : Type 0 where
  pub well_ordered : IsWellOrderedPlan plan
  pub lines : (final (setting script table) script.statements.items).lines ≡ plan_lines plan
  pub refused : (final (setting script table) script.statements.items).refused ≡ plan_refused plan
  pub traps : (final (setting script table) script.statements.items).traps ≡ plan_traps plan
  -- its ranges, jobs and contents are those of the definitions, and its jobs are cut as their schedules say
  pub laid_out : IsLaidOut script table Cut 0 (length script.statements.items) plan
