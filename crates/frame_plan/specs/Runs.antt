-- A planner goes through the statements of a script one after another, up to a test that acts or to the script's end.
use Rattle.std.specs.Prelude.{Bool, true, false, ℕ, suc, ◌≡◌, ◌<◌, ◌≤◌, List, [], ◌++◌, length, Option, None, Some, slice_get}
use Rattle.job_base.specs.declared.limits.TheConstants.{MOST_JOBS, MOST_CREATED_WORDS}
use Rattle.frame_ast.specs.declared.script.Order.{Order}
use Rattle.frame_ast.specs.declared.script.Order.TheVariants.{Schedule, When}
use Rattle.frame_ast.specs.declared.script.Script.{Script}
use Rattle.frame_ast.specs.declared.script.Statement.{Statement}
use Rattle.frame_ast.specs.Accepted.{IsAccepted}
use Rattle.frame_ast.specs.Checks.{refusal}
use Rattle.frame_ast.specs.Orders.{Table, Setting, setting}
use Rattle.frame_ast.specs.Ranges.{Starts}
use Rattle.frame_ast.specs.States.{ScriptState, at_start, is_live}
use Rattle.slot_store.specs.Stores.{peak_of}
use Rattle.frame_core.specs.declared.plan.Plan.{Plan}
use Rattle.frame_core.specs.declared.plan.Segment.{Segment}
use Rattle.kernel_exec.specs.Binds.{end_of}
use Rattle.plan_laws.specs.Binds.{bind_of_container}
use Rattle.plan_laws.specs.Drafts.{empty_draft}
use Rattle.plan_laws.specs.Finishing.{IsDone}
use Rattle.plan_laws.specs.Planned.{Outline}
use Rattle.std.specs.Prelude.{get_or}
use Rattle.plan_state.specs.declared.state.PlanFault.{PlanFault}
use Rattle.plan_state.specs.declared.state.Planner.{Planner}
use Rattle.plan_state.specs.Growth.{given_from, given_so_far, StartAs, Grows, first_jobs, unless_none, waits_of, waits_by}
use Rattle.frame_plan.specs.Layouts.{HasGrown}
use Rattle.plan_state.specs.Stands.{draft_of}
use Rattle.plan_state.specs.Steps.{state_at, StandsAt, PassesLimit}

-- WHERE A SECTION ENDS

-- the statement is a `when` that is neither passed by nor refused
abbrev pub IsActingTest : Setting → ScriptState → Order → Type 0
IsActingTest g s (When name sign value count) = (s.passing ≡ 0) × (refusal g s (When name sign value count) ≡ None)
IsActingTest g s _ = ⊥

-- at such a statement, or where none follows
abbrev pub IsStop : Setting → ScriptState → Option Statement → Type 0
IsStop g s None = Unit {0}
IsStop g s (Some x) = IsActingTest g s x.act

-- No statement from one place on and before another is such a test.
abbrev pub NoneActs : Script → Table → ℕ → ℕ → Type 0
NoneActs script table from to = (n : ℕ) (x : Statement)
    → from ≤ n
    → n < to
    → slice_get script.statements.items n ≡ Some x
    → IsActingTest (setting script table) (state_at script table n) x.act
    → ⊥

-- WHICH STATEMENTS CHANGE OPERATIONS OF THE PLAN: all but schedules, which give it a job, and a `when`
abbrev pub adds_no_job : Order → Bool
adds_no_job (Schedule job) = false
adds_no_job (When name sign value count) = false
adds_no_job _ = true

-- ONE STATEMENT of a script, with its table, passed by or not

-- The planner stands before the statement.
pub record IsAtStatement (script : Script) (table : Table) (p : Planner) (x : Statement) : Type 0 where
  pub accepted : IsAccepted script
  pub begun : ScriptState
  pub n : ℕ
  pub found : List ℕ
  pub here : slice_get script.statements.items n ≡ Some x
  pub stands : StandsAt p script table begun n found

-- It stands one statement further on, and has what the statement adds.
pub record IsFurther {script : Script} {table : Table} {old : Planner} {x : Statement}
    (at : IsAtStatement script table old x) (new : Planner) : Type 0 where
  pub more : List ℕ
  pub stands : StandsAt new script table at.begun (suc at.n) (at.found ++ more)
  pub grows : (starts : Starts)
      → StartAs starts (at.found ++ more)
      → Grows (setting script table) (state_at script table at.n) x starts at.begun.book.count old new

abbrev pub HasPassed : Script → Table → Planner → Planner → Statement → Type 0
HasPassed script table old new x = (at : IsAtStatement script table old x) → IsFurther at new

-- the statement is a test that acts
abbrev pub StopsAt : Script → Table → Planner → Statement → Type 0
StopsAt script table old x = (at : IsAtStatement script table old x)
    → IsActingTest (setting script table) (state_at script table at.n) x.act

-- it isn't one
abbrev pub GoesPast : Script → Table → Planner → Statement → Type 0
GoesPast script table old x = (at : IsAtStatement script table old x)
    → IsActingTest (setting script table) (state_at script table at.n) x.act
    → ⊥

-- the state afterwards passes a limit
abbrev pub FailsAtPlace : Script → Table → PlanFault → Planner → Statement → Type 0
FailsAtPlace script table fault old x = (at : IsAtStatement script table old x)
    → PassesLimit fault (state_at script table (suc at.n))

-- ALL STATEMENTS up to a stop

-- The planner stands at the script's beginning, and its plan has nothing.
pub record HasBegun (script : Script) (table : Table) (p : Planner) : Type 0 where
  pub stands : StandsAt p script table at_start 0 []
  pub grown : (starts : Starts) → HasGrown script table starts p 0 0

-- The planner has gone from one place to another.
pub record HasGone (script : Script) (table : Table) (old new : Planner) (begun : ScriptState) (from : ℕ)
    (found : List ℕ) (to : ℕ) : Type 0 where
  pub more : List ℕ
  pub stands : StandsAt new script table begun to (found ++ more)
  -- what is kept of the work of kernels is as it was
  pub works : new.world.works ≡ old.world.works
  -- its plan has what the statements between add
  pub grown : (start : ℕ) (starts : Starts)
      → start ≤ from
      → begun.book.count ≡ (state_at script table start).book.count
      → StartAs starts (found ++ more)
      → HasGrown script table starts old start from
      → HasGrown script table starts new start to

-- It has gone to a place where a section ends.
pub record HasRun (script : Script) (table : Table) (old new : Planner) (begun : ScriptState) (from : ℕ)
    (found : List ℕ) (to : ℕ) : Type 0 where
  pub gone : HasGone script table old new begun from found to
  pub rising : from ≤ to
  pub inside : to ≤ length script.statements.items
  pub between : NoneActs script table from to
  pub stops : IsStop (setting script table) (state_at script table to) (slice_get script.statements.items to)

-- no limit is passed
pub record IsWithin (s : ScriptState) : Type 0 where
  pub jobs : s.book.count ≤ MOST_JOBS
  pub words : s.created ≤ MOST_CREATED_WORDS

-- One of the statements passes the limit, and none before it does.
pub record PassesOnce (fault : PlanFault) (script : Script) (table : Table) : Type 0 where
  pub n : ℕ
  pub here : n < length script.statements.items
  pub within : IsWithin (state_at script table n)
  pub passes : PassesLimit fault (state_at script table (suc n))

-- A SECTION IS FINISHED

-- the words of ranges start where they were found
abbrev pub outline_of : Plan → List ℕ → ScriptState → Outline
outline_of plan found begun = record { plan = plan; starts = λ k. get_or found k 0; begun = begun }

-- The words of each container that is live end at a word at most.
abbrev pub AreWithin : ℕ → List ℕ → ScriptState → Type 0
AreWithin last found s = (c : ℕ) → is_live s c ≡ true → end_of (bind_of_container (λ k. get_or found k 0) s c) ≤ last

-- The planner stands somewhere in an accepted script.
pub record IsInside (script : Script) (p : Planner) : Type 0 where
  pub accepted : IsAccepted script
  pub table : Table
  pub begun : ScriptState
  pub n : ℕ
  pub found : List ℕ
  pub inside : n ≤ length script.statements.items
  pub stands : StandsAt p script table begun n found

-- The plan is that of a section which began in a state, up to the statement at which the planner stands.
pub record IsFinished (script : Script) (p : Planner) (plan : Plan) : Type 0 where
  pub cells : plan.cells ≡ peak_of p.world.store
  pub first : plan.first.items ≡ p.draft.first.items
  pub kernels : plan.kernels.items ≡ p.draft.kernels.items
  pub codes : plan.codes.items ≡ p.draft.codes.items
  pub jobs : plan.jobs.items ≡ p.draft.jobs.items
  -- it gives what was given, and its last segments come after those so far
  pub spans : given_from plan.segments.items ≡ given_so_far p
  pub segments_later : List Segment
  pub segments : plan.segments.items ≡ p.draft.segments.items ++ segments_later
  -- it waits for what was waited for, and then for all of its jobs
  pub waits : waits_of plan.segments.items ≡ waits_by p ++ unless_none (first_jobs (length p.draft.jobs.items))
  pub done : (at : IsInside script p) → IsDone (outline_of plan at.found at.begun) (state_at script at.table at.n)
  -- the words of what is live lie within the plan
  pub within : (at : IsInside script p) → AreWithin plan.cells at.found (state_at script at.table at.n)

-- The planner has no plan, and is otherwise as it was: it knows the places that copies of kernels had.
pub record IsEmptied (old new : Planner) : Type 0 where
  pub rest : new ≡ record old { draft = new.draft }
  pub draft : draft_of new ≡ empty_draft
  pub literals : new.draft.literals.items ≡ []
  pub kernels : new.draft.kernels.items ≡ []
  pub codes : new.draft.codes.items ≡ []
  pub pieces : new.draft.pieces ≡ 0
  pub first : new.draft.first.items ≡ []
  pub copies : new.draft.copies_of ≡ old.draft.copies_of
  pub guards : new.draft.guards_of ≡ old.draft.guards_of
