-- A schedule whose length is that of a list, in the code's terms: the use of the list, why it is refused, and its job.
use Rattle.std.specs.Prelude.{Box, ℕ, ◌≡◌, ◌≤◌, Bool, true, false, ◌&&◌, ◌||◌, nat_eq, if◌then◌else◌, List, [], ◌∷◌, ◌++◌, Option, None, Some, slice_get}
use Rattle.std.specs.List.{list_any}
use Rattle.std.specs.declared.alloc.Global.{Global}
use Rattle.job_base.specs.declared.Access.TheVariants.{Read}
use Rattle.job_base.specs.declared.limits.TheConstants.{MOST_INDEXES}
use Rattle.job_base.specs.declared.Refusal.TheVariants.{Disposed, StaleView, NotParallel, Alias, TempInJob}
use Rattle.frame_ast.specs.declared.kernel.Kernel.{Kernel}
use Rattle.frame_ast.specs.declared.kernel.ParamKind.TheVariants.{List as ListKind}
use Rattle.frame_ast.specs.declared.script.Script.{Script}
use Rattle.frame_ast.specs.declared.script.Arg.{Arg}
use Rattle.frame_ast.specs.declared.script.NewJob.{NewJob}
use Rattle.frame_ast.specs.declared.script.Statement.{Statement}
use Rattle.frame_ast.specs.Jobs.{Jobs as JobSet}
use Rattle.frame_ast.specs.Schedules.{Given, alias}
use Rattle.kernel_exec.specs.declared.binds.Bind.{Bind}
use Rattle.kernel_exec.specs.declared.binds.Bind.TheVariants.{List as WholeList}
use Rattle.defer_laws.specs.GuardedRuns.{word_at}
use Rattle.native_list.specs.declared.ListAt.{ListAt}
use Rattle.plan_schedules.specs.declared.accepting.Run.{Run}
use Rattle.plan_state.specs.declared.state.Value.{Value}
use Rattle.plan_state.specs.declared.state.World.{World}
use Rattle.plan_schedules.specs.declared.causes.Cause.{Cause}
use Rattle.plan_schedules.specs.declared.uses.NamedUse.{NamedUse}
use Rattle.plan_state.specs.Accesses.{tag_for}
use Rattle.plan_schedules.specs.Causes.{has_cause, first_with, alias_of, pending_of, or_next}
use Rattle.plan_state.specs.Growth.{is_none}
use Rattle.plan_schedules.specs.JobBinds.{bind_of_value, job_binds}
use Rattle.plan_schedules.specs.Starting.{asking, IsCutBy}
use Rattle.plan_schedules.specs.Uses.{IsBlockedBy, number_of_value, is_temp_in, given_of}

-- THE SCHEDULE

-- the job that is asked for, with this cut, and with this list and batch size for `defer`
abbrev pub by_list : NewJob → Option (ℕ × ℕ) → ℕ × ℕ → NewJob
by_list asked cut defer = record asked { cut = cut; defer = Some defer }

-- a schedule with `defer`, as a statement
abbrev pub deferring : ℕ → Box NewJob Global → NewJob → Option (ℕ × ℕ) → ℕ × ℕ → Statement
deferring line home asked cut defer = asking line home (by_list asked cut defer)

-- THE USE OF THE LIST

-- The list after `defer` is used like one that is given to an `ro` parameter.
pub record IsLengthUse (w : World) (after : JobSet) (name : ℕ) (u : NamedUse) : Type 0 where
  pub value : Value
  pub has : slice_get w.values.items name ≡ Some value
  pub named : u.name ≡ name
  pub container : u.container ≡ number_of_value value
  pub kind : u.kind ≡ ListKind
  pub access : u.access ≡ Read
  pub temp : u.is_temp ≡ is_temp_in w.containers.items value
  pub tag : u.tag ≡ tag_for w.containers.items value
  pub blocked : IsBlockedBy w after u.tag false u.blocked

-- It is the length among the values of the schedule.
abbrev pub length_given : NamedUse → Given
length_given u = record (given_of u) { is_length = true }

-- The uses of the arguments and of the list.
abbrev pub with_length : List NamedUse → NamedUse → List NamedUse
with_length args list = args ++ list ∷ []

-- whether one of some uses is of that container
abbrev pub has_container : List NamedUse → ℕ → Bool
has_container [] c = false
has_container (u ∷ more) c = nat_eq c u.container || has_container more c

-- The uses that are noted of its job. An argument of the list uses it already, and may write it.
abbrev pub noted_uses : List NamedUse → NamedUse → List NamedUse
noted_uses args list = if has_container args list.container then args else with_length args list

-- WHY IT IS REFUSED

-- the list is an alias of an argument
abbrev pub length_alias : List NamedUse → NamedUse → Option Cause
length_alias args list =
    if list_any (λ a. alias (given_of a) (length_given list)) args
    then Some (record { refusal = Alias; name = list.name })
    else None

-- the first alias among the arguments and the list
abbrev pub deferred_alias : List NamedUse → NamedUse → Option Cause
deferred_alias args list = or_next (alias_of args) (length_alias args list)

-- the first of all causes that there is
abbrev pub deferred_refusal : List NamedUse → NamedUse → Bool → Bool → Option Cause
deferred_refusal args list parallel auto =
    let uses = with_length args list in
    or_next (first_with Disposed (has_cause parallel Disposed) uses)
    (or_next (first_with StaleView (has_cause parallel StaleView) uses)
    (or_next (first_with NotParallel (has_cause parallel NotParallel) uses)
    (or_next (first_with TempInJob (has_cause parallel TempInJob) uses)
    (or_next (deferred_alias args list)
    (if auto then None else pending_of uses)))))

-- ITS LIST

abbrev pub IsListBind : Bind → Type 0
IsListBind (WholeList at) = at.cap ≤ MOST_INDEXES
IsListBind _ = ⊥

-- The name stands for a whole list, which has at most as many elements as a job has indexes.
abbrev pub IsListName : World → ℕ → Type 0
IsListName w name = IsListBind (bind_of_value w (slice_get w.values.items name))

-- the words of the list of a name
abbrev pub IsListAt : World → ℕ → ListAt → Type 0
IsListAt w name at = bind_of_value w (slice_get w.values.items name) ≡ WholeList at

-- ITS JOB

-- What is run for it: the guarded copy of its kernel, on the words of its arguments and the one with the list's length.
-- There is an index for each element that the list can have.
pub record IsGuardedRun (script : Script) (w : World) (kernel : ℕ) (args : List Arg) (waive : List ℕ) (list batch : ℕ)
    (run : Run) : Type 0 where
  pub source : Kernel
  pub is_source : slice_get script.kernels.items kernel ≡ Some source
  pub at : ListAt
  pub list_at : IsListAt w list at
  pub kernel_is : run.kernel ≡ kernel
  pub guarded : run.guarded ≡ true
  pub binds : run.binds.items
      ≡ job_binds w source.parallel waive 0 source.params.items args ++ word_at at.start ∷ []
  pub cut_by : IsCutBy w.works.items kernel (Some (at.cap, batch)) run.cut
  pub parallel : run.parallel ≡ (source.parallel && is_none waive)
