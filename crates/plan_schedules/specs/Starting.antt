-- A new job of the plan, in the code's terms.
use Rattle.std.specs.Prelude.{Box, ℕ, ◌+◌, ◌-◌, ◌*◌, ◌≡◌, ◌≢◌, ◌≤◌, Bool, true, false, ◌&&◌, List, Option, None, Some, slice_get}
use Rattle.job_base.specs.declared.limits.TheConstants.{MOST_INDEXES, MOST_PIECES, MOST_JOBS}
use Rattle.batch_cut.specs.declared.pieces.Cut.{Cut}
use Rattle.batch_cut.specs.Cuts.{step_of}
use Rattle.frame_ast.specs.declared.kernel.Kernel.{Kernel}
use Rattle.frame_ast.specs.declared.script.Script.{Script}
use Rattle.std.specs.declared.alloc.Global.{Global}
use Rattle.frame_ast.specs.declared.script.Arg.{Arg}
use Rattle.frame_ast.specs.declared.script.NewJob.{NewJob}
use Rattle.frame_ast.specs.declared.script.Order.TheVariants.{Schedule}
use Rattle.frame_ast.specs.declared.script.Statement.{Statement}
use Rattle.job_base.specs.declared.Access.{Access}
use Rattle.auto_deps.specs.Needs.{ForNeeds, IsAutomatic}
use Rattle.frame_ast.specs.Laws.{AreUpTo}
use Rattle.job_handle.specs.declared.book.JobBook.{JobBook}
use Rattle.safety_handle.specs.declared.book.SafetyBook.{SafetyBook}
use Rattle.safety_handle.specs.declared.tag.Tag.{Tag}
use Rattle.plan_state.specs.declared.state.PlanFault.{PlanFault}
use Rattle.plan_state.specs.declared.state.PlanFault.TheVariants.{Jobs as TooManyJobs, Words, NoMemory}
use Rattle.frame_ast.specs.Jobs.{Jobs, Book, both, only, with_job}
use Rattle.job_handle.specs.Books.{StandsFor, count_of}
use Rattle.safety_handle.specs.Entries.{state_of}
use Rattle.frame_core.specs.Names.{has_job}
use Rattle.plan_laws.specs.Ledgers.{later}
use Rattle.plan_laws.specs.Planned.{AreJobsUpTo}
use Rattle.job_base.specs.declared.JobId.{JobId}
use Rattle.plan_schedules.specs.declared.accepting.Run.{Run}
use Rattle.plan_state.specs.declared.start.JobAnswer.{JobAnswer}
use Rattle.plan_state.specs.declared.start.JobAnswer.TheVariants.{Starts}
use Rattle.plan_state.specs.declared.start.Start.{Start}
use Rattle.plan_state.specs.declared.state.World.{World}
use Rattle.plan_schedules.specs.declared.uses.NamedUse.{NamedUse}
use Rattle.plan_state.specs.Accesses.{HasHandle}
use Rattle.plan_state.specs.Growth.{is_none}
use Rattle.plan_state.specs.Works.{batch_for}
use Rattle.plan_schedules.specs.JobBinds.{job_binds}
use Rattle.plan_schedules.specs.Noting.{noted_all}

-- a job in the box of another one, which lends its place alone
abbrev pub in_box : Box NewJob Global → NewJob → Box NewJob Global
in_box home asked = record home { value = asked }

-- a schedule, as a statement
abbrev pub asking : ℕ → Box NewJob Global → NewJob → Statement
asking line home asked = record { line = line; act = Schedule (in_box home asked) }

-- the job that is asked for, without its `defer`
abbrev pub undeferred : NewJob → NewJob
undeferred asked = record asked { defer = None }

-- a schedule without `defer`, as a statement
abbrev pub scheduling : ℕ → Box NewJob Global → NewJob → Statement
scheduling line home asked = asking line home (undeferred asked)

-- a schedule's number of indexes and its batch; one index where there are none
abbrev pub numbers_by : Option (ℕ × ℕ) → ℕ × ℕ
numbers_by None = (1, 1)
numbers_by (Some cut) = cut

-- The cut that `cut` gives for a schedule's two numbers; without them it is that of one index. A job of little work is
-- one piece, by what is kept of the work of kernels.
pub record IsCutBy (works : List (Option ℕ)) (kernel : ℕ) (given : Option (ℕ × ℕ)) (cut : Cut) : Type 0 where
  pub indexes : cut.n ≡ (numbers_by given).0
  pub step : cut.step ≡ step_of (numbers_by given).0
      (batch_for works kernel (numbers_by given).0 (numbers_by given).1)
  -- so it has few pieces, none of them too large
  pub few : cut.n ≤ MOST_INDEXES
  pub steps : (1 ≤ cut.step) × (cut.step ≤ MOST_INDEXES)
  pub pieces : cut.n ≤ MOST_PIECES * cut.step

-- The jobs of a set after the first ones, in rising order, by their numbers from there.
pub record AreLater (before count : ℕ) (jobs : Jobs) (ids : List JobId) : Type 0 where
  pub within : AreJobsUpTo (count - before) ids
  pub are : (j : ℕ) → has_job ids j ≡ later before jobs j

-- What is run for a schedule without `defer`: a plain copy of its kernel, on the words of its arguments.
pub record IsPlainRun (script : Script) (w : World) (kernel : ℕ) (args : List Arg) (cut : Option (ℕ × ℕ))
    (waive : List ℕ) (run : Run) : Type 0 where
  pub source : Kernel
  pub is_source : slice_get script.kernels.items kernel ≡ Some source
  pub kernel_is : run.kernel ≡ kernel
  pub plain : run.guarded ≡ false
  pub binds : run.binds.items ≡ job_binds w source.parallel waive 0 source.params.items args
  pub cut_by : IsCutBy w.works.items kernel cut run.cut
  pub parallel : run.parallel ≡ (source.parallel && is_none waive)

-- The books have a job: the book of jobs has it, the safety book has its uses, and its handle's name stands for it.
pub record IsInBooks (old new : World) (handle : ℕ) (uses : List NamedUse) (deps : Jobs) : Type 0 where
  pub room : count_of old.jobs ≢ MOST_JOBS
  -- the world after the job was noted
  pub after : World
  pub jobs : (b : Book) → StandsFor old.jobs b → StandsFor after.jobs (with_job b deps)
  pub safety : (k : ℕ) → state_of after.safety k ≡ noted_all (count_of old.jobs + 1) uses (state_of old.safety) k
  pub rest : after ≡ record old { jobs = after.jobs; safety = after.safety }
  -- and at last its name
  pub named : HasHandle after new handle (only (count_of old.jobs + 1))

-- An answer starts what a job runs, after the jobs that it depends on, by the numbers of the section.
pub record IsStartOf (w : World) (run : Run) (deps : Jobs) (answer : JobAnswer) : Type 0 where
  pub start : Start
  pub is : answer ≡ Starts start
  pub runs : start ≡ record {
    kernel = run.kernel;
    guarded = run.guarded;
    binds = run.binds;
    cut = run.cut;
    parallel = run.parallel;
    deps = start.deps;
  }
  pub later_are : AreLater w.jobs_before (count_of w.jobs) deps start.deps.items

-- The dependency set: the named jobs, and with `auto` the automatic set of the uses.
abbrev pub AreDeps : Bool → Jobs → JobBook → SafetyBook → List (Tag × Access) → Jobs → Type 0
AreDeps false named jobs safety tags deps = deps ≡ named
AreDeps true named jobs safety tags deps = (auto : Jobs)
    × (deps ≡ both named auto)
    × AreUpTo (count_of jobs) auto
    × ForNeeds jobs safety tags (IsAutomatic named auto)

-- other than for want of memory it fails where there are all jobs already
abbrev pub IsFull : PlanFault → ℕ → Type 0
IsFull NoMemory count = Unit {0}
IsFull TooManyJobs count = count ≡ MOST_JOBS
IsFull Words count = ⊥
