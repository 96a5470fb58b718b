-- An accepted schedule with `defer`: the guarded kernel, with as many indexes as the list can have, stands in for the
-- schedule's own, which the language runs for the list's length.
use Rattle.std.specs.Prelude.{ℕ, ◌≡◌, ◌<◌, ◌^◌, [], ◌∷◌, ◌++◌, Some, slice_get}
use Rattle.frame_ast.specs.declared.kernel.Kernel.{Kernel}
use Rattle.frame_ast.specs.Checked.{IsChecked}
use Rattle.frame_ast.specs.Contents.{Contents, Cells, Single, Items, Pairs, Entries}
use Rattle.frame_ast.specs.Orders.{Setting}
use Rattle.frame_ast.specs.Ranges.{Starts}
use Rattle.frame_ast.specs.States.{ScriptState, contents_at}
use Rattle.job_defer.specs.Guarded.{IsGuarded, GuardsWords}
use Rattle.kernel_exec.specs.declared.binds.Bind.{Bind}
use Rattle.frame_core.specs.declared.plan.JobPlan.{JobPlan}
use Rattle.plan_laws.specs.Accepting.{Schedule, deps_of, IsAcceptedSchedule, PlannedKernel, argument_binds, IsPlannedJob, StandsIn}
use Rattle.plan_laws.specs.Binds.{start_at}
use Rattle.plan_laws.specs.Drafts.{Draft}
use Rattle.plan_laws.specs.Planned.{Outline, IsPlanned}
use Rattle.defer_laws.specs.GuardedRuns.{word_at}

-- how many elements a list can have
abbrev pub capacity_of : Contents → ℕ
capacity_of (Cells xs) = 0
capacity_of (Single z) = 0
capacity_of (Items cap xs) = cap
capacity_of (Pairs cap ps) = 0
capacity_of (Entries room es) = 0

-- a list begins with the word that holds its length
abbrev pub length_bind : Starts → ScriptState → ℕ → Bind
length_bind starts s list = word_at (start_at starts s list)

-- What is run for a schedule with the length of a list: the guarded kernel, with the binds of the arguments and of the
-- length, and as many indexes as the list can have.
abbrev pub guarded_kernel : Starts → ScriptState → Schedule → ℕ → Kernel → Kernel → PlannedKernel
guarded_kernel starts s o list old new = record {
  kernel = new;
  binds = argument_binds starts s o old ++ length_bind starts s list ∷ [];
  indexes = capacity_of (contents_at s list);
}

-- what `guard` gives
pub record Guards (old new : Kernel) : Type 0 where
  pub checked : IsChecked old
  pub guarded : IsGuarded old new
  pub words : GuardsWords old new

abbrev pub GuardedKernelsStandIn : Type 0
GuardedKernelsStandIn = (x : Outline) (g : Setting) (s : ScriptState) (o : Schedule) (defer : ℕ × ℕ)
    (old new : Kernel) (d : Draft) (job : JobPlan)
    → x.plan.cells < 2 ^ 32
    → IsPlanned x s d
    → IsAcceptedSchedule g s o
    → o.defer ≡ Some defer
    → slice_get g.kernels o.kernel ≡ Some old
    → Guards old new
    → IsPlannedJob x d o (guarded_kernel x.starts s o defer.0 old new) (deps_of g s o) job
    → StandsIn x s d o old (guarded_kernel x.starts s o defer.0 old new) job
