-- An accepted schedule with its kernel at hand: the binds of its arguments fit the kernel and stand for their contents.
use Rattle.std.proofs.Common.{◌≡◌, ℕ, ◌<◌, ◌≤◌, ◌^◌, true, List, [], length, Option, Some, None, subst}
use Rattle.std.specs.Prelude.{slice_get}
use Rattle.frame_ast.specs.declared.kernel.Kernel.{Kernel}
use Rattle.frame_ast.specs.declared.kernel.Param.{Param}
use Rattle.frame_ast.specs.Arguments.{width_of}
use Rattle.frame_ast.specs.Fitting.{ArgsFit, AreUnshared, LengthFits}
use Rattle.frame_ast.specs.Orders.{Setting, kernel_params, kernel_parallel}
use Rattle.frame_ast.specs.Refusals.{schedule_refusal}
use Rattle.frame_ast.specs.Schedules.{Given, writes_to, first_alias, givens, arguments_of, widths_from}
use Rattle.frame_ast.specs.States.{ScriptState}
use Rattle.frame_ast.proofs.Scheduled.{no_alias_given}
use Rattle.frame_ast.proofs.Unshared.{written_arguments_are_unshared}
use Rattle.kernel_exec.specs.declared.binds.Bind.{Bind}
use Rattle.kernel_exec.specs.Binds.{end_of, widths}
use Rattle.kernel_exec.specs.Conditions.{BindsFit}
use Rattle.kernel_exec.specs.Laws.{HaveOwnParts}
use Rattle.kernel_exec.specs.Layout.{StandFor}
use Rattle.plan_laws.specs.Accepting.{Schedule, IsDeferrable, IsAcceptedSchedule, argument_binds}
use Rattle.plan_laws.specs.Drafts.{Draft, cells_of}
use Rattle.plan_laws.specs.Planned.{Outline, IsPlanned}
use Rattle.plan_laws.proofs.Schedules.ArgumentBinds as argument
use Rattle.plan_laws.proofs.Schedules.Fitting as fitting
use Rattle.plan_laws.proofs.Schedules.Leaving.{arguments_stand}

-- what is known of the schedule, by its kernel
pub record IsAtHand (x : Outline) (s : ScriptState) (o : Schedule) (d : Draft) (ok : Option Kernel) : Type 0 where
  pub small : x.plan.cells < 2 ^ 32
  pub was : IsPlanned x s d
  pub deferrable : IsDeferrable o.defer (kernel_parallel ok)
  pub unrefused : schedule_refusal s (kernel_parallel ok) o.auto (givens s (kernel_params ok) o.args o.defer) o.after ≡ None
  pub args_fit : ArgsFit s o.defer (kernel_params ok) o.args
  pub list_fits : LengthFits s o.defer
  pub widths : (n : ℕ) (p : Param)
      → kernel_parallel ok ≡ true
      → o.waive ≡ []
      → slice_get (kernel_params ok) n ≡ Some p
      → writes_to p.access ≡ true
      → 0 < width_of (widths_from (kernel_parallel ok) o.waive 0 (kernel_params ok)) n

pub at_hand : (x : Outline) (g : Setting) (s : ScriptState) (o : Schedule) (k : Kernel) (d : Draft) → x.plan.cells < 2 ^ 32 → IsPlanned x s d
    → IsAcceptedSchedule g s o → slice_get g.kernels o.kernel ≡ Some k
    → IsAtHand x s o d (Some k)
at_hand x g s o k d small was a has = subst (IsAtHand x s o d) has (record {
  small = small;
  was = was;
  deferrable = a.deferrable;
  unrefused = a.unrefused;
  args_fit = a.args_fit;
  list_fits = a.list_fits;
  widths = a.widths;
})

module _ (x : Outline) (s : ScriptState) (o : Schedule) (k : Kernel) (d : Draft) (is : IsAtHand x s o d (Some k)) where
  abbrev ps : List Param
  ps = k.params.items

  abbrev ws : List ℕ
  ws = widths_from k.parallel o.waive 0 ps

  abbrev gs : List Given
  gs = givens s ps o.args o.defer

  abbrev binds : List Bind
  binds = argument_binds x.starts s o k

  pub no_alias : first_alias [] gs ≡ None
  no_alias = no_alias_given s k.parallel o.auto gs o.after is.unrefused

  pub unshared : AreUnshared s ps o.args
  unshared = written_arguments_are_unshared s ps o.args o.defer no_alias

  pub widths_long : length ws ≡ length ps
  widths_long = argument.widths_long x is.small s d is.was k o.waive o.args o.defer is.args_fit unshared

  pub all_fit : fitting.ArgsFit s ps ws o.args
  all_fit = argument.all_fit x is.small s d is.was k o.waive o.args o.defer is.args_fit unshared

  pub widths_are : widths binds ≡ ws
  widths_are = argument.widths_are x is.small s d is.was k o.waive o.args o.defer is.args_fit unshared

  pub bind_here : (y : ℕ) (b : Bind) → slice_get binds y ≡ Some b → argument.IsBindAt x.starts s ps o.args y b
  bind_here = argument.bind_here x is.small s d is.was k o.waive o.args o.defer is.args_fit unshared

  pub within : (y : ℕ) (b : Bind) → slice_get binds y ≡ Some b → end_of b ≤ x.plan.cells
  within = argument.within x is.small s d is.was k o.waive o.args o.defer is.args_fit unshared

  pub binds_fit : BindsFit k binds
  binds_fit = argument.binds_fit x is.small s d is.was k o.waive o.args o.defer is.args_fit unshared

  pub own_parts : k.parallel ≡ true → o.waive ≡ [] → HaveOwnParts k binds
  own_parts parallel unwaived = argument.own_parts x is.small s d is.was k o.waive o.args o.defer is.args_fit unshared
      (λ n p. is.widths n p parallel unwaived)

  pub stand : StandFor binds (cells_of x.plan d) (arguments_of s ps o.args)
  stand = arguments_stand x.starts s (cells_of x.plan d) ps ws o.args o.defer is.was.standing.contents is.args_fit widths_long
