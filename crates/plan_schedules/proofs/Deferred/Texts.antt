-- What the text of an accepted schedule with `defer` gives: its kernel has a guarded copy, its list and its names fit.
use Rattle.std.proofs.Common.{◌≡◌, ℕ, ◌<◌, ◌≤◌, Bool, true, false, ◌&&◌, [], ◌∷◌, length, get_or, Option, Some, None, refl, arith}
use Rattle.std.specs.Prelude.{Box, slice_get, is_some, nat_le}
use Rattle.std.specs.declared.alloc.Global.{Global}
use Rattle.std.proofs.lemmas.Bool.{and_parts, leb-true}
use Rattle.job_base.specs.declared.limits.TheConstants.{MOST_PARAMS, MOST_INDEXES}
use Rattle.frame_ast.specs.declared.kernel.Kernel.{Kernel}
use Rattle.frame_ast.specs.declared.script.Order.TheVariants.{Schedule as Scheduled}
use Rattle.frame_ast.specs.declared.script.Script.{Script}
use Rattle.frame_ast.specs.declared.script.Statement.{Statement}
use Rattle.frame_ast.specs.declared.name_kind.NameKind.TheVariants as kind
use Rattle.frame_ast.specs.Accepted.{Names, uses, makes, all_used, up_to, args_fit, one_of, batch_fits, guard_fits, defer_fits, schedule_fits}
use Rattle.frame_ast.specs.Orders.{Table, setting}
use Rattle.plan_state.specs.Copies.{MayBeGuarded}
use Rattle.plan_schedules.specs.Deferring.{by_list}
use Rattle.plan_state.specs.Steps.{IsStep}
use Rattle.plan_state.proofs.Reaching.{fits_at, used_below, made_below}
use Rattle.plan_schedules.proofs.Texts.{EachBelow, args_below, all_below_names}
use Rattle.frame_ast.specs.declared.script.NewJob.{NewJob}
use Rattle.plan_schedules.specs.Starting.{in_box}

module _ (line : ℕ) (home : Box NewJob Global) (asked : NewJob) (list batch : ℕ) where
  abbrev pub x : Statement
  x = record { line = line; act = Scheduled (in_box home (by_list asked None (list, batch))) }

  module _ {script : Script} {table : Table} {n : ℕ} (step : IsStep script table n x) where
    abbrev names : ℕ → Names
    names made = record { kinds = step.accepted.kinds; made = made }

    abbrev many : ℕ
    many = length (setting script table).names

    abbrev defer : Option (ℕ × ℕ)
    defer = Some (list, batch)

    pub record IsDeferredText : Type 0 where
      pub source : Kernel
      pub has : slice_get script.kernels.items asked.kernel ≡ Some source
      pub guardable : MayBeGuarded source
      pub handle_below : asked.handle < many
      pub list_below : list < many
      pub batch_fit : (1 ≤ batch) × (batch ≤ MOST_INDEXES)
      pub each : length asked.args.items ≡ length source.params.items
      pub few : length asked.args.items ≤ 16
      pub below : EachBelow many asked.args.items
      pub after_below : (k d : ℕ) → k < length asked.after.items → get_or asked.after.items k d < many

    parallel_alone : (parallel : Bool) → one_of parallel false true ≡ true → parallel ≡ true
    parallel_alone true h = refl
    parallel_alone false h = absurd cc

    pub deferred_text : IsDeferredText
    deferred_text =
        let fit = fits_at step in
        let parts = and_parts (makes (names fit.made) asked.handle kind.Handle)
        (schedule_fits (names fit.made) (slice_get script.kernels.items asked.kernel) asked.args.items None defer asked.waive.items asked.after.items)
        fit.fits in
        by fit.made (made_below step fit.made asked.handle kind.Handle parts.0) (slice_get script.kernels.items asked.kernel) refl parts.1
      where
        by : (made : ℕ) → asked.handle < many → (o : Option Kernel) → slice_get script.kernels.items asked.kernel ≡ o
            → schedule_fits (names made) o asked.args.items None defer asked.waive.items asked.after.items ≡ true → IsDeferredText
        by made lt None at e = absurd cc
        by made lt (Some k) at e =
            let a = and_parts (args_fit (names made) defer k.params.items asked.args.items && one_of k.parallel false true) _ e in
            let b = and_parts (args_fit (names made) defer k.params.items asked.args.items) (one_of k.parallel false true) a.0 in
            let c = and_parts (defer_fits (names made) k defer) _ a.1 in
            let f = and_parts (uses (names made) list (kind.List ∷ []) && batch_fits batch) (guard_fits k) c.0 in
            let u = and_parts (uses (names made) list (kind.List ∷ [])) (batch_fits batch) f.0 in
            let s = and_parts (nat_le 1 batch) (up_to MOST_INDEXES batch) u.1 in
            let d = and_parts _ (all_used (names made) asked.after.items) c.1 in
            let below = args_below step defer made k.params.items asked.args.items b.0 in
            let checked = step.accepted.kernels asked.kernel k at in
            let few = leb-true (length k.params.items) MOST_PARAMS checked.count in
            record {
              source = k;
              has = at;
              guardable = record { checked = checked; parallel = parallel_alone k.parallel b.1; fits = f.1 };
              handle_below = lt;
              list_below = used_below step made list (kind.List ∷ []) u.0;
              batch_fit = (leb-true 1 batch s.0, leb-true batch MOST_INDEXES s.1);
              each = below.0;
              few = (let e = below.0 in omega arith);
              below = below.1;
              after_below = all_below_names step defer made asked.after.items d.1;
            }

-- there is no cut beside a `defer`
module _ (line : ℕ) (home : Box NewJob Global) (asked : NewJob) (cut : Option (ℕ × ℕ)) (defer : ℕ × ℕ) where
  abbrev y : Statement
  y = record { line = line; act = Scheduled (in_box home (by_list asked cut defer)) }

  alone : (parallel : Bool) (cut : Option (ℕ × ℕ)) → one_of parallel (is_some cut) true ≡ true → cut ≡ None
  alone true None h = refl
  alone true (Some c) h = absurd cc
  alone false None h = absurd cc
  alone false (Some c) h = absurd cc

  pub uncut : {script : Script} {table : Table} {n : ℕ} → IsStep script table n y → cut ≡ None
  uncut {script} step =
      let fit = fits_at step in
      by (record { kinds = step.accepted.kinds; made = fit.made }) (slice_get script.kernels.items asked.kernel)
      (and_parts (makes (record { kinds = step.accepted.kinds; made = fit.made }) asked.handle kind.Handle)
      (schedule_fits (record { kinds = step.accepted.kinds; made = fit.made }) (slice_get script.kernels.items asked.kernel) asked.args.items cut
      (Some defer) asked.waive.items asked.after.items) fit.fits).1
    where
      by : (ns : Names) (o : Option Kernel) → schedule_fits ns o asked.args.items cut (Some defer) asked.waive.items asked.after.items ≡ true → cut ≡ None
      by ns None e = absurd cc
      by ns (Some k) e =
          let a = and_parts (args_fit ns (Some defer) k.params.items asked.args.items && one_of k.parallel (is_some cut) true) _ e in
          alone k.parallel cut (and_parts (args_fit ns (Some defer) k.params.items asked.args.items) (one_of k.parallel (is_some cut) true) a.0).1
