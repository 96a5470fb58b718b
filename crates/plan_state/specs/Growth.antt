-- What one statement adds to a plan: the range that it takes, the job that it schedules, and what is waited for.
--
-- Decided here is which words a statement gives to a container, and what the job of an accepted schedule is: its
-- kernel, where its arguments lie, its cut, whether its pieces may run at once, what it depends on, and what was waited
-- for before it is started. A statement that is refused or passed by adds neither. That a section adds what its
-- statements add, and nothing else, is said in `Layouts`.
use Rattle.std.specs.Prelude.{ℕ, zero, suc, ◌+◌, ◌-◌, ◌≡◌, ◌<◌, Bool, true, false, ◌&&◌, not, max, if◌then◌else◌, List, [], ◌∷◌, ◌++◌, length, get_or, Option, None, Some, slice_get}
use Rattle.job_base.specs.declared.JobId.{JobId}
use Rattle.job_base.specs.declared.Span.{Span}
use Rattle.batch_cut.specs.Cuts.{step_of}
use Rattle.frame_ast.specs.declared.kernel.Kernel.{Kernel}
use Rattle.frame_ast.specs.declared.script.Arg.{Arg}
use Rattle.frame_ast.specs.declared.script.Order.{Order}
use Rattle.frame_ast.specs.declared.script.Order.TheVariants.{Schedule}
use Rattle.frame_ast.specs.Checks.{refusal}
use Rattle.frame_ast.specs.Jobs.{Jobs}
use Rattle.frame_ast.specs.Orders.{Setting}
use Rattle.frame_ast.specs.Ranges.{Starts, Takes, takes_words}
use Rattle.frame_ast.specs.Refusals.{Refused}
use Rattle.frame_ast.specs.Schedules.{widths_from}
use Rattle.frame_ast.specs.Scripts.{act}
use Rattle.frame_ast.specs.States.{ScriptState, contents_at}
use Rattle.frame_ast.specs.declared.script.Statement.{Statement}
use Rattle.kernel_exec.specs.declared.binds.Bind.{Bind}
use Rattle.tree_laws.specs.Same.{SameKernel}
use Rattle.job_defer.specs.Guarded.{IsGuarded}
use Rattle.slot_store.specs.Stores.{peak_of}
use Rattle.frame_core.specs.declared.plan.Act.{Act}
use Rattle.frame_core.specs.declared.plan.Act.TheVariants.{Fill, Move}
use Rattle.frame_core.specs.declared.plan.JobPlan.{JobPlan}
use Rattle.frame_core.specs.declared.plan.Op.{Op}
use Rattle.frame_core.specs.declared.plan.Segment.{Segment}
use Rattle.frame_core.specs.Names.{has_job}
use Rattle.plan_laws.specs.Binds.{binds_by}
use Rattle.plan_laws.specs.Ledgers.{later}
use Rattle.defer_laws.specs.Deferring.{capacity_of, length_bind}
use Rattle.plan_state.specs.declared.state.Planner.{Planner}
use Rattle.plan_state.specs.Works.{batch_for}

-- RANGES

-- the words that an operation gives to a container: a new one is filled, and a list moves
abbrev pub given_by : Act → List Span
given_by (Fill span literal) = span ∷ []
given_by (Move from to) = to ∷ []
given_by _ = []

abbrev pub given_in : List Op → List Span
given_in [] = []
given_in (op ∷ more) = given_by op.act ++ given_in more

abbrev pub given_from : List Segment → List Span
given_from [] = []
given_from (s ∷ more) = given_in s.ops.items ++ given_from more

-- those that a planner has given so far, in their order
abbrev pub given_so_far : Planner → List Span
given_so_far p = given_from p.draft.segments.items ++ given_in p.draft.ops.items

-- The words that a statement takes by the definition: so many, from where the next range starts.

abbrev pub span_at : Starts → ScriptState → Option ℕ → List Span
span_at starts s None = []
span_at starts s (Some words) = record { start = starts s.takes; len = words } ∷ []

abbrev pub span_unless : Setting → Starts → ScriptState → Order → Option Refused → List Span
span_unless g starts s order None = span_at starts s (takes_words g order)
span_unless g starts s order (Some r) = []

-- a statement that is passed by takes none
abbrev pub span_by : Setting → Starts → ScriptState → ℕ → Order → List Span
span_by g starts s zero order = span_unless g starts s order (refusal g s order)
span_by g starts s (suc more) order = []

abbrev pub greatest_end : List Span → ℕ
greatest_end [] = 0
greatest_end (span ∷ more) = max (span.start + span.len) (greatest_end more)

-- The ranges taken so far start where they were found.
abbrev pub StartAs : Starts → List ℕ → Type 0
StartAs starts found = (k : ℕ) → k < length found → starts k ≡ get_or found k 0

-- JOBS

-- the number of indexes, and the batch: with `defer` as many indexes as the list has room for, without either one
abbrev pub numbers_of : ScriptState → Option (ℕ × ℕ) → Option (ℕ × ℕ) → ℕ × ℕ
numbers_of s None None = (1, 1)
numbers_of s (Some cut) None = cut
numbers_of s cut (Some defer) = (capacity_of (contents_at s defer.0), defer.1)

-- a job runs a copy of its kernel, and where its length is that of a list a guarded copy
abbrev pub IsCopyFor : Option (ℕ × ℕ) → Kernel → Kernel → Type 0
IsCopyFor None source copy = SameKernel source copy
IsCopyFor (Some defer) source copy = IsGuarded source copy

-- the word with the list's length is one argument more
abbrev pub length_binds : Starts → ScriptState → Option (ℕ × ℕ) → List Bind
length_binds starts s None = []
length_binds starts s (Some defer) = length_bind starts s defer.0 ∷ []

abbrev pub is_none : {A : Type 0} → List A → Bool
is_none [] = true
is_none (x ∷ more) = false

-- The job of an accepted schedule, in a section before which there were so many jobs, by what is kept of the work of
-- kernels.
pub record IsJobOf (g : Setting) (works : List (Option ℕ)) (starts : Starts) (before : ℕ) (s : ScriptState)
    (set : Jobs) (kernel : ℕ) (args : List Arg) (cut defer : Option (ℕ × ℕ)) (waive : List ℕ) (kernels : List Kernel)
    (job : JobPlan) : Type 0 where
  pub source : Kernel
  pub is_source : slice_get g.kernels kernel ≡ Some source
  pub copy : Kernel
  pub is_copy : slice_get kernels job.kernel ≡ Some copy
  pub copied : IsCopyFor defer source copy
  -- where its arguments lie
  pub binds : job.binds.items
      ≡ binds_by starts s source.params.items (widths_from source.parallel waive 0 source.params.items) args
      ++ length_binds starts s defer
  -- its cut: where it is of little work, it is one piece
  pub indexes : job.cut.n ≡ (numbers_of s cut defer).0
  pub step : job.cut.step ≡ step_of (numbers_of s cut defer).0
      (batch_for works kernel (numbers_of s cut defer).0 (numbers_of s cut defer).1)
  -- its pieces may run at once where the kernel is parallel and nothing is waived
  pub parallel : job.parallel ≡ (source.parallel && is_none waive)
  -- exactly its dependency set, by the numbers of the section
  pub deps : (j : ℕ) → has_job job.deps.items j ≡ later before set j

-- there is such a job at a place
abbrev pub HasJobOf : Setting → List (Option ℕ) → Starts → ℕ → ScriptState → Jobs → ℕ → List Arg → Option (ℕ × ℕ)
    → Option (ℕ × ℕ) → List ℕ → List Kernel → Option JobPlan → Type 0
HasJobOf g works starts before s deps kernel args cut defer waive kernels None = ⊥
HasJobOf g works starts before s deps kernel args cut defer waive kernels (Some job) =
    IsJobOf g works starts before s deps kernel args cut defer waive kernels job

abbrev pub SchedulesUnless : Setting → List (Option ℕ) → Starts → ℕ → ScriptState → Jobs → Order → Option Refused
    → List Kernel → Option JobPlan → Type 0
SchedulesUnless g works starts before s deps (Schedule job) None kernels place =
    let j = job.value in
    HasJobOf g works starts before s deps j.kernel j.args.items j.cut j.defer j.waive.items kernels place
SchedulesUnless g works starts before s deps (Schedule job) (Some r) kernels place =
    Unit {0}
SchedulesUnless g works starts before s deps _ refused kernels place = Unit {0}

-- an accepted schedule that isn't passed by has its job at a place among the plan's
abbrev pub Schedules : Setting → List (Option ℕ) → Starts → ℕ → ScriptState → Jobs → ℕ → Order → List Kernel
    → Option JobPlan → Type 0
Schedules g works starts before s deps zero order kernels place =
    SchedulesUnless g works starts before s deps order (refusal g s order) kernels place
Schedules g works starts before s deps (suc more) order kernels place = Unit {0}

-- the dependency set of the job that a statement schedules, as the script has it afterwards
abbrev pub deps_after : Setting → ScriptState → Statement → Jobs
deps_after g s x = (act g s x).book.deps (suc s.book.count)

-- WAITS

-- the jobs that segments wait for
abbrev pub waits_in : List Segment → List JobId
waits_in [] = []
waits_in (s ∷ more) = s.waits.items ++ waits_in more

abbrev pub waits_so_far : Planner → List JobId
waits_so_far p = waits_in p.draft.segments.items ++ p.draft.waits.items

-- those that a planner has waited for so far are the completed ones, by the numbers of the section
abbrev pub HasWaited : ℕ → ScriptState → Planner → Type 0
HasWaited before s p = (j : ℕ) → 0 < j → has_job (waits_so_far p) j ≡ later before s.book.completed j

-- A job is started by a segment, and the segments up to that wait for just the jobs that are completed.
pub record IsStartedAfter (segments : List Segment) (number before : ℕ) (completed : Jobs) : Type 0 where
  pub earlier : List Segment
  pub segment : Segment
  pub rest : List Segment
  pub are : segments ≡ earlier ++ segment ∷ rest
  pub starts : segment.starts ≡ Some (record { 0 = number })
  pub waits : (j : ℕ) → 0 < j → has_job (waits_in earlier ++ segment.waits.items) j ≡ later before completed j

abbrev pub AwaitsUnless : ℕ → ScriptState → Order → Option Refused → List Segment → Type 0
AwaitsUnless before s (Schedule job) None segments =
    IsStartedAfter segments (suc (s.book.count - before)) before s.book.completed
AwaitsUnless before s (Schedule job) (Some r) segments = Unit {0}
AwaitsUnless before s _ refused segments = Unit {0}

-- the job of an accepted schedule that isn't passed by is started after the jobs that were completed before it
abbrev pub Awaits : Setting → ℕ → ScriptState → ℕ → Order → List Segment → Type 0
Awaits g before s zero order segments = AwaitsUnless before s order (refusal g s order) segments
Awaits g before s (suc more) order segments = Unit {0}

-- WAITS IN THEIR ORDER

-- the jobs of a set among the first n, in rising order
abbrev pub rising_jobs : Jobs → ℕ → List JobId
rising_jobs set zero = []
rising_jobs set (suc n) = rising_jobs set n ++ (if set (suc n) then record { 0 = suc n } ∷ [] else [])

-- the first n jobs
abbrev pub first_jobs : ℕ → List JobId
first_jobs n = rising_jobs (λ j. true) n

-- some jobs, or nothing where there is none
abbrev pub unless_none : List JobId → List (List JobId)
unless_none [] = []
unless_none (job ∷ more) = (job ∷ more) ∷ []

-- what each segment waits for, if anything
abbrev pub waits_of : List Segment → List (List JobId)
waits_of [] = []
waits_of (s ∷ more) = unless_none s.waits.items ++ waits_of more

-- and each segment of a planner so far
abbrev pub waits_by : Planner → List (List JobId)
waits_by p = waits_of p.draft.segments.items ++ unless_none p.draft.waits.items

-- the jobs that are completed in a state and weren't in one before it, by the numbers of a section
abbrev pub newly_in : ℕ → ScriptState → ScriptState → Jobs
newly_in before s after j = after.book.completed (before + j) && not (s.book.completed (before + j))

abbrev pub newly_completed : ℕ → ScriptState → ScriptState → List JobId
newly_completed before s after = rising_jobs (newly_in before s after) (s.book.count - before)

-- ONE STATEMENT

-- A planner that goes on by a statement takes its range and schedules its job.
pub record Grows (g : Setting) (s : ScriptState) (x : Statement) (starts : Starts) (before : ℕ) (old new : Planner)
    : Type 0 where
  -- a range is where the definition has it, and the plan gives it
  pub first_fit : Takes g starts s s.passing x.act
  pub spans : given_so_far new ≡ given_so_far old ++ span_by g starts s s.passing x.act
  pub peak : peak_of new.world.store ≡ max (peak_of old.world.store) (greatest_end (span_by g starts s s.passing x.act))
  -- segments, jobs and kernels stay, and those that are new come after them
  pub segments_later : List Segment
  pub segments_are : new.draft.segments.items ≡ old.draft.segments.items ++ segments_later
  pub jobs_later : List JobPlan
  pub jobs_are : new.draft.jobs.items ≡ old.draft.jobs.items ++ jobs_later
  pub kernels_later : List Kernel
  pub kernels_are : new.draft.kernels.items ≡ old.draft.kernels.items ++ kernels_later
  -- what is kept of the work of kernels stays, and the next job is the one that is scheduled
  pub works : new.world.works ≡ old.world.works
  pub schedules : Schedules g old.world.works.items starts before s (deps_after g s x) s.passing x.act
      new.draft.kernels.items
      (slice_get new.draft.jobs.items (s.book.count - before))
  -- what was waited for stays what is completed, and the next job is started after just that
  pub waited : HasWaited before s old → HasWaited before (act g s x) new
  pub awaited : HasWaited before s old → Awaits g before s s.passing x.act new.draft.segments.items
  -- a segment waits for what the statement newly completes, if anything
  pub waits : waits_by new ≡ waits_by old ++ unless_none (newly_completed before s (act g s x))
