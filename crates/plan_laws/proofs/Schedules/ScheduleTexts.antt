-- What the laws of accepted scripts say of a schedule, put together.
use Rattle.std.proofs.Common.{◌≡◌, ◌<◌, ℕ, Bool, true, false, List, take, map, Option, Some, None, refl, subst}
use Rattle.std.specs.Prelude.{is_some, slice_get}
use Rattle.std.proofs.lemmas.Bool.{and_parts}
use Rattle.frame_ast.specs.declared.kernel.Kernel.{Kernel}
use Rattle.frame_ast.specs.declared.name_kind.NameKind.TheVariants as kind
use Rattle.frame_ast.specs.declared.script.Arg.{Arg}
use Rattle.frame_ast.specs.declared.script.NewJob.{NewJob}
use Rattle.frame_ast.specs.declared.script.Order.{Order}
use Rattle.frame_ast.specs.declared.script.Order.TheVariants as order
use Rattle.frame_ast.specs.Accepted.{Names, makes, one_of, args_fit, schedule_fits, order_fits}
use Rattle.frame_ast.specs.Checks.{refusal}
use Rattle.frame_ast.specs.Effects.{effect}
use Rattle.frame_ast.specs.Fitting.{FitsAsValues, HaveWidths}
use Rattle.frame_ast.specs.Forms.{form_of, form_after}
use Rattle.frame_ast.specs.JobRuns.{run_of}
use Rattle.frame_ast.specs.Orders.{Setting, setting, kernel_parallel, is_parallel}
use Rattle.frame_ast.specs.Scripts.{final}
use Rattle.frame_ast.specs.States.{ScriptState}
use Rattle.frame_ast.proofs.Naming.{fits_there}
use Rattle.frame_ast.proofs.StatementForms.{statements_keep_forms}
use Rattle.frame_ast.proofs.ValuesFit.{values_fit}
use Rattle.frame_ast.proofs.Widths.{written_parameters_have_widths}
use Rattle.frame_core.proofs.Small.{not_both, some_is, none_some}
use Rattle.plan_laws.specs.Accepting.{Schedule, accepted, IsDeferrable, IsAcceptedSchedule}
use Rattle.plan_laws.specs.ScheduleTexts.{schedule_of, SchedulesAreAccepted}

-- ---- with `defer` its kernel is parallel

parallel_alone : (parallel cut : Bool) → one_of parallel cut true ≡ true → parallel ≡ true
parallel_alone true cut h = refl
parallel_alone false true h = absurd (not_both h refl)
parallel_alone false false h = absurd (not_both h refl)

parallel_of : (ns : Names) (k : Option Kernel) (args : List Arg) (cut : Option (ℕ × ℕ)) (defer : ℕ × ℕ) (waive after : List ℕ)
    → schedule_fits ns k args cut (Some defer) waive after ≡ true → kernel_parallel k ≡ true
parallel_of ns None args cut defer waive after h = absurd (not_both h refl)
parallel_of ns (Some k) args cut defer waive after h =
    parallel_alone k.parallel (is_some cut) (and_parts (args_fit ns (Some defer) k.params.items args) (one_of k.parallel (is_some cut) true)
    (and_parts _ _ h).0).1

module _ (g : Setting) where
  abbrev IsParallel : Order → Type 0
  IsParallel (order.Schedule job) = IsDeferrable job.value.defer (is_parallel g job.value.kernel)
  IsParallel _ = Unit {0}

  parallel_by : (ns : Names) (job : NewJob) (d : Option (ℕ × ℕ)) → schedule_fits ns
      (slice_get g.kernels job.kernel) job.args.items job.cut d job.waive.items job.after.items ≡ true → IsDeferrable d (is_parallel g job.kernel)
  parallel_by ns job None fits = tt
  parallel_by ns job (Some defer) fits = parallel_of ns (slice_get g.kernels job.kernel) job.args.items job.cut defer job.waive.items job.after.items fits

  parallel_at : (ns : Names) (rest inside : ℕ) (x : Order) → order_fits ns g.literals g.kernels rest inside x ≡ true → IsParallel x
  parallel_at ns rest inside (order.Schedule job) fits = parallel_by ns job.value job.value.defer (and_parts (makes ns job.value.handle kind.Handle) _ fits).1
  parallel_at ns rest inside _ fits = tt

-- ---- the statement

module _ (g : Setting) (s : ScriptState) (line : ℕ) (runs : g.runs ≡ map run_of g.kernels) where
  abbrev Keeps : Order → Type 0
  Keeps x = (c : ℕ) → c < s.made → form_of ((effect g line s x).contents c) ≡ form_after s x c

  abbrev Is : Order → Schedule → Type 0
  Is x o = (effect g line s x ≡ accepted g s o) × IsAcceptedSchedule g s o

  is_schedule : (x : Order) (o : Schedule) → schedule_of x ≡ Some o → refusal g s x ≡ None → IsParallel g x → FitsAsValues g s x → HaveWidths g s x
      → Keeps x → Is x o
  is_schedule (order.Schedule job) o e none parallel fits widths forms = subst (Is (order.Schedule job)) (some_is e) (
    refl,
    record {
      runs = runs;
      deferrable = parallel;
      unrefused = none;
      args_fit = fits.0;
      list_fits = fits.1;
      widths = widths;
      forms = forms;
    },
  )
  is_schedule (order.Array name len life values) o e none parallel fits widths forms = absurd (none_some e)
  is_schedule (order.Column name column life) o e none parallel fits widths forms = absurd (none_some e)
  is_schedule (order.List name cap life) o e none parallel fits widths forms = absurd (none_some e)
  is_schedule (order.Reference name life value) o e none parallel fits widths forms = absurd (none_some e)
  is_schedule (order.Map name cap life) o e none parallel fits widths forms = absurd (none_some e)
  is_schedule (order.Stream name count room life) o e none parallel fits widths forms = absurd (none_some e)
  is_schedule (order.Slice name of start len) o e none parallel fits widths forms = absurd (none_some e)
  is_schedule (order.View name of) o e none parallel fits widths forms = absurd (none_some e)
  is_schedule (order.Copy name of) o e none parallel fits widths forms = absurd (none_some e)
  is_schedule (order.Set name at value) o e none parallel fits widths forms = absurd (none_some e)
  is_schedule (order.Add name first second) o e none parallel fits widths forms = absurd (none_some e)
  is_schedule (order.Put name key value) o e none parallel fits widths forms = absurd (none_some e)
  is_schedule (order.Remove name at) o e none parallel fits widths forms = absurd (none_some e)
  is_schedule (order.Clear name) o e none parallel fits widths forms = absurd (none_some e)
  is_schedule (order.SetCapacity name cap) o e none parallel fits widths forms = absurd (none_some e)
  is_schedule (order.Combine name of) o e none parallel fits widths forms = absurd (none_some e)
  is_schedule (order.Complete name) o e none parallel fits widths forms = absurd (none_some e)
  is_schedule (order.CompleteAuto name) o e none parallel fits widths forms = absurd (none_some e)
  is_schedule (order.Dispose name after handle) o e none parallel fits widths forms = absurd (none_some e)
  is_schedule (order.DisposeAuto name handle) o e none parallel fits widths forms = absurd (none_some e)
  is_schedule (order.Print name) o e none parallel fits widths forms = absurd (none_some e)
  is_schedule order.Flush o e none parallel fits widths forms = absurd (none_some e)
  is_schedule order.Frame o e none parallel fits widths forms = absurd (none_some e)
  is_schedule (order.When name sign value count) o e none parallel fits widths forms = absurd (none_some e)

pub schedules_are_accepted : SchedulesAreAccepted
schedules_are_accepted script is table n x o at e none =
    let g = setting script table in
    let s = final g (take n script.statements.items) in
    let there = fits_there g is.kinds 0 0 script.statements.items n x is.fits at in
    let r = is_schedule g s x.line refl x.act o e none
    (parallel_at g (record { kinds = is.kinds; made = there.made }) there.rest there.inside x.act there.fits)
    (values_fit script is table n x at none) (written_parameters_have_widths script is table n x at none)
    (statements_keep_forms script is table n x at none) in
    record { effect_is = r.0; is_accepted = r.1 }
