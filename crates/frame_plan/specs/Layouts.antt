-- How a section is laid out: where its ranges start, what its jobs are, and what its segments wait for, statement by
-- statement.
--
-- Decided here is that the ranges, the jobs and the waits of a plan are those that the definitions have for the
-- statements between two places, each where they have it, and no others. That its run gives the script's output, and
-- what the next section is given, is said in `Sections`.
use Rattle.std.specs.Prelude.{ℕ, zero, suc, ◌+◌, ◌-◌, ◌≡◌, ◌<◌, ◌≤◌, nat_le, if◌then◌else◌, List, [], ◌++◌, length, take, Option, None, Some, slice_get}
use Rattle.job_base.specs.declared.JobId.{JobId}
use Rattle.job_base.specs.declared.Span.{Span}
use Rattle.frame_ast.specs.declared.kernel.Kernel.{Kernel}
use Rattle.frame_ast.specs.declared.script.Script.{Script}
use Rattle.frame_ast.specs.declared.script.Statement.{Statement}
use Rattle.frame_ast.specs.Orders.{Table, Setting, setting}
use Rattle.frame_ast.specs.Ranges.{Starts, AreFirstFits}
use Rattle.frame_ast.specs.States.{ScriptState, at_start}
use Rattle.slot_store.specs.Stores.{peak_of}
use Rattle.frame_core.specs.declared.plan.JobPlan.{JobPlan}
use Rattle.frame_core.specs.declared.plan.Plan.{Plan}
use Rattle.frame_core.specs.declared.plan.Segment.{Segment}
use Rattle.frame_core.specs.Graphs.{cells_after}
use Rattle.plan_laws.specs.Leaving.{AllHeld}
use Rattle.plan_state.specs.declared.state.Planner.{Planner}
use Rattle.plan_state.specs.Growth.{given_so_far, given_from, span_by, greatest_end, Schedules, deps_after, Awaits, HasWaited, first_jobs, unless_none, waits_of, waits_by, newly_completed}
use Rattle.plan_state.specs.Steps.{state_at}
use Rattle.frame_plan.specs.declared.small_jobs.SmallJobs.{SmallJobs}
use Rattle.frame_plan.specs.Works.{works_by}

-- RANGES

abbrev pub span_of : Setting → Starts → ScriptState → Option Statement → List Span
span_of g starts s None = []
span_of g starts s (Some x) = span_by g starts s s.passing x.act

-- the words that the n-th statement takes
abbrev pub spans_at : Script → Table → Starts → ℕ → List Span
spans_at script table starts n =
    span_of (setting script table) starts (state_at script table n) (slice_get script.statements.items n)

-- those that statements take, from one place up to another
abbrev pub spans_between : Script → Table → Starts → ℕ → ℕ → List Span
spans_between script table starts from zero = []
spans_between script table starts from (suc n) =
    if nat_le from n then spans_between script table starts from n ++ spans_at script table starts n else []

-- the greatest end of any range that was taken up to a place
abbrev pub greatest_end_at : Script → Table → Starts → ℕ → ℕ
greatest_end_at script table starts n = greatest_end (spans_between script table starts 0 n)

-- JOBS

-- The statement has its job among these, cut by what is kept of the work of kernels, and started by one of these
-- segments.
pub record HasItsJob (g : Setting) (works : List (Option ℕ)) (starts : Starts) (before : ℕ) (s : ScriptState)
    (x : Statement) (kernels : List Kernel) (jobs : List JobPlan) (segments : List Segment) : Type 0 where
  pub job : Schedules g works starts before s (deps_after g s x) s.passing x.act kernels
      (slice_get jobs (s.book.count - before))
  pub after : Awaits g before s s.passing x.act segments

-- So has each accepted schedule from one place up to another, in their order.
abbrev pub AreScheduled : Script → Table → List (Option ℕ) → Starts → ℕ → ℕ → List Kernel → List JobPlan
    → List Segment → Type 0
AreScheduled script table works starts from to kernels jobs segments = (n : ℕ) (x : Statement)
    → from ≤ n
    → n < to
    → slice_get script.statements.items n ≡ Some x
    → HasItsJob (setting script table) works starts (state_at script table from).book.count (state_at script table n) x
    kernels jobs segments

-- WAITS

-- the jobs that the n-th statement newly completes, by the numbers of a section that began at a place
abbrev pub completed_at : Script → Table → ℕ → ℕ → List JobId
completed_at script table from n =
    newly_completed (state_at script table from).book.count (state_at script table n) (state_at script table (suc n))

-- those that statements newly complete, from the section's place up to another: of each that completes any, in order
abbrev pub completed_between : Script → Table → ℕ → ℕ → List (List JobId)
completed_between script table from zero = []
completed_between script table from (suc n) =
    if nat_le from n
    then completed_between script table from n ++ unless_none (completed_at script table from n)
    else []

-- A SECTION

-- The plan of a section is laid out as the definitions say, with jobs of little work whole or not.
pub record IsLaidOut (script : Script) (table : Table) (small_jobs : SmallJobs) (from to : ℕ) (plan : Plan)
    : Type 0 where
  pub starts : Starts
  -- each range has the first fit, and the plan gives just these
  pub ranges : AreFirstFits (setting script table) starts (take to script.statements.items) at_start
  pub spans : given_from plan.segments.items ≡ spans_between script table starts from to
  -- the words of containers end where the last of them ends
  pub cells : plan.cells ≡ greatest_end_at script table starts to
  -- its jobs are those of the accepted schedules, each started after what was completed before it
  pub count : length plan.jobs.items + (state_at script table from).book.count ≡ (state_at script table to).book.count
  pub jobs : AreScheduled script table (works_by small_jobs script.kernels.items) starts from to plan.kernels.items
      plan.jobs.items plan.segments.items
  -- its segments wait for what each statement newly completes, and in the end for all of its jobs, and for nothing else
  pub waits : waits_of plan.segments.items
      ≡ completed_between script table from to ++ unless_none (first_jobs (length plan.jobs.items))
  -- and in the end the words of each container that is alive stand for its contents
  pub contents : AllHeld starts (state_at script table to) (cells_after plan)

-- A PLANNER on its way, with starts of ranges that are those found so far

-- The ranges are first fits, and its store has the greatest end of them.
pub record HasRanges (script : Script) (table : Table) (starts : Starts) (p : Planner) (at : ℕ) : Type 0 where
  pub fits : AreFirstFits (setting script table) starts (take at script.statements.items) at_start
  pub peak : peak_of p.world.store ≡ greatest_end_at script table starts at

-- Beside that, its plan so far is laid out from where the section began.
pub record HasGrown (script : Script) (table : Table) (starts : Starts) (p : Planner) (from at : ℕ) : Type 0 where
  pub ranges : HasRanges script table starts p at
  pub spans : given_so_far p ≡ spans_between script table starts from at
  pub jobs : AreScheduled script table p.world.works.items starts from at p.draft.kernels.items p.draft.jobs.items
      p.draft.segments.items
  pub waited : HasWaited (state_at script table from).book.count (state_at script table at) p
  pub waits : waits_by p ≡ completed_between script table from at
