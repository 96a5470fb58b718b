-- An accepted schedule: the segment at hand is closed and starts a job of a planned kernel, which runs in pieces as the
-- language runs the schedule's own kernel whole. Without `defer` the planned kernel is the schedule's own.
use Rattle.std.specs.Prelude.{ℕ, suc, ◌≡◌, ◌<◌, ◌^◌, Bool, if◌then◌else◌, List, [], ◌∷◌, ◌++◌, length, map, Option, None, Some, slice_get, true, false}
use Rattle.frame_ast.specs.declared.kernel.Kernel.{Kernel}
use Rattle.frame_ast.specs.declared.kernel.Param.{Param}
use Rattle.frame_ast.specs.declared.script.Arg.{Arg}
use Rattle.frame_ast.specs.Arguments.{width_of}
use Rattle.frame_ast.specs.Checked.{IsChecked}
use Rattle.frame_ast.specs.Conflicts.{Need, automatic, uses_it, writes_it}
use Rattle.frame_ast.specs.Contents.{Contents}
use Rattle.frame_ast.specs.Effects.{accept, steps_by}
use Rattle.frame_ast.specs.Fitting.{ArgsFit, LengthFits}
use Rattle.frame_ast.specs.Forms.{form_of}
use Rattle.frame_ast.specs.JobRuns.{full_steps, run_of, executes}
use Rattle.frame_ast.specs.Jobs.{Jobs, both}
use Rattle.frame_ast.specs.Laws.{IsKnown}
use Rattle.frame_ast.specs.Orders.{Setting, params_of, is_parallel, job_length}
use Rattle.frame_ast.specs.Ranges.{Starts}
use Rattle.frame_ast.specs.Refusals.{jobs_named, schedule_refusal}
use Rattle.frame_ast.specs.Schedules.{Given, givens, writes_to, widths_from}
use Rattle.frame_ast.specs.States.{ScriptState}
use Rattle.kernel_exec.specs.declared.binds.Bind.{Bind}
use Rattle.kernel_exec.specs.Laws.{at_indexes}
use Rattle.kernel_exec.specs.Layout.{StandFor}
use Rattle.frame_core.specs.declared.plan.JobPlan.{JobPlan}
use Rattle.frame_core.specs.declared.plan.Segment.{Segment}
use Rattle.frame_core.specs.Names.{has_job, kernel_of, pieces_before}
use Rattle.frame_core.specs.Ordered.{AreJobs, IsCutIn, JobFits}
use Rattle.frame_core.specs.Touched.{IsBound, IsBoundToWrite}
use Rattle.plan_laws.specs.Binds.{binds_by}
use Rattle.plan_laws.specs.Drafts.{Draft, cells_of}
use Rattle.plan_laws.specs.Enrolling.{IsOfArgument}
use Rattle.plan_laws.specs.Ledgers.{later}
use Rattle.plan_laws.specs.Planned.{Outline, jobs_before, IsPlanned, Closes}

-- THE SCHEDULE

-- The text of a schedule.
pub record Schedule : Type 0 where
  pub auto : Bool
  pub handle : ℕ
  pub kernel : ℕ
  pub args : List Arg
  pub cut : Option (ℕ × ℕ)
  -- the list whose length it has, and the batch
  pub defer : Option (ℕ × ℕ)
  pub waive : List ℕ
  pub after : List ℕ

-- the uses of its arguments, and of its list
abbrev pub uses_of : Setting → ScriptState → Schedule → List Given
uses_of g s o = givens s (params_of g o.kernel) o.args o.defer

-- the dependency set of its job
abbrev pub deps_of : Setting → ScriptState → Schedule → Jobs
deps_of g s o =
    let named = jobs_named s o.after in
    let needs = map (λ v. v.need) (uses_of g s o) in
    if o.auto then both named (automatic s.book s.uses named needs) else named

-- the state after it
abbrev pub accepted : Setting → ScriptState → Schedule → ScriptState
accepted g s o = accept g s o.auto o.handle o.kernel o.args o.cut o.defer o.waive o.after

-- a kernel with `defer` is parallel
abbrev pub IsDeferrable : Option (ℕ × ℕ) → Bool → Type 0
IsDeferrable None parallel = Unit {0}
IsDeferrable (Some defer) parallel = parallel ≡ true

-- The language accepts it: nothing refuses it, its arguments and its list fit, what a parallel kernel may write has a
-- width where nothing is waived, and containers keep their forms.
pub record IsAcceptedSchedule (g : Setting) (s : ScriptState) (o : Schedule) : Type 0 where
  pub runs : g.runs ≡ map run_of g.kernels
  pub deferrable : IsDeferrable o.defer (is_parallel g o.kernel)
  pub unrefused : schedule_refusal s (is_parallel g o.kernel) o.auto (uses_of g s o) o.after ≡ None
  pub args_fit : ArgsFit s o.defer (params_of g o.kernel) o.args
  pub list_fits : LengthFits s o.defer
  pub widths : (n : ℕ) (p : Param)
      → is_parallel g o.kernel ≡ true
      → o.waive ≡ []
      → slice_get (params_of g o.kernel) n ≡ Some p
      → writes_to p.access ≡ true
      → 0 < width_of (widths_from (is_parallel g o.kernel) o.waive 0 (params_of g o.kernel)) n
  pub forms : (c : ℕ) → c < s.made → form_of ((accepted g s o).contents c) ≡ form_of (s.contents c)

-- ITS JOB

-- What a job runs: a kernel over binds, at so many indexes.
pub record PlannedKernel : Type 0 where
  pub kernel : Kernel
  pub binds : List Bind
  pub indexes : ℕ

-- the binds of the arguments
abbrev pub argument_binds : Starts → ScriptState → Schedule → Kernel → List Bind
argument_binds starts s o k =
    binds_by starts s k.params.items (widths_from k.parallel o.waive 0 k.params.items) o.args

-- how often the language runs its kernel
abbrev pub indexes_of : ScriptState → Schedule → Kernel → ℕ
indexes_of s o k = executes k.parallel (job_length s o.cut o.defer)

-- what is run for a schedule without `defer`
abbrev pub plain_kernel : Starts → ScriptState → Schedule → Kernel → PlannedKernel
plain_kernel starts s o k =
    record { kernel = k; binds = argument_binds starts s o k; indexes = indexes_of s o k }

-- What is planned: a job of a planned kernel, with the dependency set of the language and a cut that `cut` gives.
pub record IsPlannedJob (x : Outline) (d : Draft) (o : Schedule) (run : PlannedKernel) (deps : Jobs) (job : JobPlan)
    : Type 0 where
  pub jobs_later : List JobPlan
  pub jobs_are : x.plan.jobs.items ≡ (d.jobs ++ job ∷ []) ++ jobs_later
  pub has_kernel : kernel_of x.plan job ≡ Some run.kernel
  pub checked : IsChecked run.kernel
  pub first : job.first.0 ≡ pieces_before d.jobs (length d.jobs)
  pub binds : job.binds.items ≡ run.binds
  pub indexes : job.cut.n ≡ run.indexes
  pub cut : IsCutIn job
  pub one : run.kernel.parallel ≡ false → (job.cut.n ≡ 1) × (job.cut.step ≡ 1)
  -- its pieces may run at once where the kernel is parallel and nothing is waived
  pub parallel : job.parallel ≡ true → (run.kernel.parallel ≡ true) × (o.waive ≡ [])
  pub known_deps : AreJobs x.plan job.deps.items
  pub deps_are : (j : ℕ) → has_job job.deps.items j ≡ later (jobs_before x) deps j

-- THE PLANNED KERNEL STANDS IN FOR THE SCHEDULE'S OWN

abbrev pub needs_of : ScriptState → Schedule → Kernel → List Need
needs_of s o k = map (λ v. v.need) (givens s k.params.items o.args o.defer)

-- Its job fits it. From the words at hand all its indexes leave the words and meet the traps that the indexes of the
-- schedule's kernel do. Its binds are of containers that the schedule uses, and what it may write the schedule may.
pub record StandsIn (x : Outline) (s : ScriptState) (d : Draft) (o : Schedule) (k : Kernel) (run : PlannedKernel)
    (job : JobPlan) : Type 0 where
  pub fits : JobFits x.plan job run.kernel
  pub checked : IsChecked k
  pub alike : at_indexes run.kernel run.binds full_steps run.indexes 0 (cells_of x.plan d)
      ≡ at_indexes k (argument_binds x.starts s o k) (steps_by o.defer) (indexes_of s o k) 0 (cells_of x.plan d)
  pub contents : List Contents
  pub stand : StandFor run.binds (cells_of x.plan d) contents
  pub bound : (w : ℕ)
      → IsBound run.kernel.params.items run.binds w
      → IsOfArgument x s (uses_it (needs_of s o k)) w
  pub bound_to_write : (w : ℕ)
      → IsBoundToWrite run.kernel.params.items run.binds w
      → IsOfArgument x s (writes_it (needs_of s o k)) w

-- The plan goes on with such a job as the script does.
abbrev pub SchedulesArePlanned : Type 0
SchedulesArePlanned = (x : Outline) (g : Setting) (s : ScriptState) (o : Schedule) (k : Kernel) (run : PlannedKernel)
    (d e : Draft) (segment : Segment) (job : JobPlan)
    → x.plan.cells < 2 ^ 32
    → IsKnown s
    → IsPlanned x s d
    → IsAcceptedSchedule g s o
    → slice_get g.kernels o.kernel ≡ Some k
    → IsPlannedJob x d o run (deps_of g s o) job
    → StandsIn x s d o k run job
    → segment.starts ≡ Some (record { 0 = suc (length d.jobs) })
    → Closes d e segment (job ∷ []) []
    → IsPlanned x (accepted g s o) e

-- Without `defer` the schedule's kernel stands in for itself.
abbrev pub PlainKernelsStandIn : Type 0
PlainKernelsStandIn = (x : Outline) (g : Setting) (s : ScriptState) (o : Schedule) (k : Kernel) (d : Draft)
    (job : JobPlan)
    → x.plan.cells < 2 ^ 32
    → IsPlanned x s d
    → IsAcceptedSchedule g s o
    → o.defer ≡ None
    → slice_get g.kernels o.kernel ≡ Some k
    → IsPlannedJob x d o (plain_kernel x.starts s o k) (deps_of g s o) job
    → StandsIn x s d o k (plain_kernel x.starts s o k) job
