-- A job that the plan gets, in the code's terms: what a schedule answers, and a draft that took it.
use Rattle.std.specs.Prelude.{ℕ, suc, ◌+◌, ◌*◌, ◌≡◌, ◌<◌, ◌≤◌, ◌^◌, Bool, true, false, [], ◌∷◌, ◌++◌, length, Some, vec_len}
use Rattle.job_base.specs.declared.limits.TheConstants.{MOST_INDEXES, MOST_JOBS, MOST_PIECES}
use Rattle.frame_ast.specs.declared.script.Script.{Script}
use Rattle.frame_ast.specs.declared.script.Statement.{Statement}
use Rattle.frame_ast.specs.Orders.{Table}
use Rattle.frame_core.specs.declared.plan.Act.TheVariants.{Say}
use Rattle.frame_core.specs.declared.plan.JobPlan.{JobPlan}
use Rattle.frame_core.specs.declared.plan.Segment.{Segment}
use Rattle.frame_core.specs.Names.{pieces_of}
use Rattle.plan_state.specs.declared.start.JobAnswer.{JobAnswer}
use Rattle.plan_state.specs.declared.start.JobAnswer.TheVariants.{Refused, Starts}
use Rattle.plan_state.specs.declared.start.Start.{Start}
use Rattle.plan_state.specs.declared.state.Draft.{Draft}
use Rattle.plan_state.specs.declared.state.Planner.{Planner}
use Rattle.plan_state.specs.declared.state.World.{World}
use Rattle.plan_state.specs.Answers.{HasOp}
use Rattle.plan_state.specs.Copies.{IsCopied, IsGuardedAt, IsKernelChecked, IsKernelGuardable}
use Rattle.plan_state.specs.Steps.{IsBefore, HasStepped}

-- THE COPY THAT IT RUNS: a guarded one, or a plain one

-- What is needed for it: the script has such a kernel, and the plan room for one more.
pub record MayCopy (guarded : Bool) (script : Script) (d : Draft) (kernel : ℕ) : Type 0 where
  pub here : kernel < vec_len script.kernels
  pub each : vec_len d.copies_of ≡ vec_len script.kernels
  pub each_guard : vec_len d.guards_of ≡ vec_len script.kernels
  pub few : vec_len d.kernels < 2 ^ 32
  pub checked : IsKernelChecked script kernel
  pub guardable : guarded ≡ true → IsKernelGuardable script kernel

abbrev pub HasCopyFor : Bool → Script → Draft → Draft → ℕ → ℕ → Type 0
HasCopyFor false script old new kernel place = IsCopied script old new kernel place
HasCopyFor true script old new kernel place = IsGuardedAt script old new kernel place

-- THE JOB

-- The segment at hand is closed and starts one job more. All else is as it was.
pub record IsStarted (old new : Draft) (job : JobPlan) : Type 0 where
  pub segment : Segment
  pub waits_were : segment.waits.items ≡ old.waits.items
  pub ops_were : segment.ops.items ≡ old.ops.items
  pub starts : segment.starts ≡ Some (record { 0 = suc (length old.jobs.items) })
  pub segments : new.segments.items ≡ old.segments.items ++ segment ∷ []
  pub jobs : new.jobs.items ≡ old.jobs.items ++ job ∷ []
  pub waits : new.waits.items ≡ []
  pub ops : new.ops.items ≡ []
  pub pieces : new.pieces ≡ old.pieces + pieces_of job
  pub rest : new ≡ record old {
    segments = new.segments;
    jobs = new.jobs;
    waits = new.waits;
    ops = new.ops;
    pieces = new.pieces;
  }

-- The job of a start, at the place of its kernel's copy and with its first piece.
abbrev pub job_by : Start → ℕ → ℕ → JobPlan
job_by start place first = record {
  kernel = place;
  binds = start.binds;
  cut = start.cut;
  parallel = start.parallel;
  deps = start.deps;
  first = record { 0 = first };
}

-- A draft has the copy that a job runs, and starts the job.
pub record HasJob (old new : Draft) (script : Script) (start : Start) : Type 0 where
  pub place : ℕ
  -- the draft after the copy was asked for
  pub copied : Draft
  pub copy : HasCopyFor start.guarded script old copied start.kernel place
  pub started : IsStarted copied new (job_by start place copied.pieces)

-- What is needed for it: there is room for its kernel, for a job and for its pieces.
pub record MayStart (script : Script) (d : Draft) (start : Start) : Type 0 where
  pub copy : MayCopy start.guarded script d start.kernel
  pub step : (1 ≤ start.cut.step) × (start.cut.step ≤ MOST_INDEXES)
  pub indexes : start.cut.n ≤ MOST_PIECES * start.cut.step
  pub jobs : vec_len d.jobs < MOST_JOBS
  pub pieces : d.pieces ≤ MOST_PIECES * MOST_JOBS

-- WHAT A SCHEDULE ANSWERS

-- A draft took it, at the line of the statement.
abbrev pub HasTakenJob : Draft → Draft → Script → ℕ → JobAnswer → Type 0
HasTakenJob old new script line (Refused name refusal) =
    HasOp old new (record { line = line; name = name; act = Say refusal })
HasTakenJob old new script line (Starts start) = HasJob old new script start

-- what a draft needs to take it
abbrev pub MayTakeJob : Script → Draft → JobAnswer → Type 0
MayTakeJob script d (Refused name refusal) = Unit {0}
MayTakeJob script d (Starts start) = MayStart script d start

-- Each planner with this world goes on by the schedule, where its draft takes the answer: it is of this script, and has
-- this table.
abbrev pub SchedulesIn : Script → Table → World → World → Statement → JobAnswer → Type 0
SchedulesIn script table old new x answer = (p : Planner) (draft : Draft)
    → HasTakenJob p.draft draft script x.line answer
    → (b : IsBefore script table (record p { world = old }) x)
    → HasStepped b (record p { world = new; draft = draft })

-- The draft of each planner with this world that stands before the schedule may take the answer.
abbrev pub MayBeTaken : Script → World → Statement → JobAnswer → Type 0
MayBeTaken script w x answer = (p : Planner) (table : Table)
    → IsBefore script table (record p { world = w }) x
    → MayTakeJob script p.draft answer
