-- What the text of an accepted schedule gives: its kernel is there, and its names and its cut fit.
use Rattle.std.proofs.Common.{◌≡◌, ℕ, zero, suc, ◌<◌, ◌≤◌, true, false, ◌&&◌, List, [], ◌∷◌, length, get_or, All, Option, Some, None, refl, ap, arith}
use Rattle.std.specs.Prelude.{Box, slice_get, is_some}
use Rattle.std.specs.List.{list_all}
use Rattle.std.specs.declared.alloc.Global.{Global}
use Rattle.std.proofs.lemmas.Bool.{and_parts, leb-true}
use Rattle.job_base.specs.declared.limits.TheConstants.{MOST_PARAMS}
use Rattle.frame_ast.specs.declared.kernel.Kernel.{Kernel}
use Rattle.frame_ast.specs.declared.kernel.Param.{Param}
use Rattle.frame_ast.specs.declared.script.Arg.{Arg}
use Rattle.frame_ast.specs.declared.script.Arg.TheVariants.{Name, Number}
use Rattle.frame_ast.specs.declared.script.Order.TheVariants.{Schedule as Scheduled}
use Rattle.frame_ast.specs.declared.script.Script.{Script}
use Rattle.frame_ast.specs.declared.script.Statement.{Statement}
use Rattle.frame_ast.specs.declared.name_kind.NameKind.TheVariants as kind
use Rattle.frame_ast.specs.Accepted.{Names, uses, makes, all_used, arg_fits, args_fit, one_of, is_deferred, cut_fits, schedule_fits, kinds_for}
use Rattle.frame_ast.specs.Checked.{IsChecked}
use Rattle.frame_ast.specs.Orders.{Table, setting}
use Rattle.plan_state.specs.Steps.{IsStep}
use Rattle.plan_schedules.specs.Uses.{IsNameBelow}
use Rattle.plan_state.proofs.Reaching.{fits_at, used_below, made_below}
use Rattle.frame_ast.specs.declared.script.NewJob.{NewJob}
use Rattle.plan_schedules.specs.Starting.{undeferred, in_box}

-- each name among the arguments is one of so many
abbrev pub EachBelow : ℕ → List Arg → Type 0
EachBelow n [] = Unit {0}
EachBelow n (a ∷ as_) = IsNameBelow n a × EachBelow n as_

pub all_below : (n : ℕ) (args : List Arg) → EachBelow n args → All (IsNameBelow n) args
all_below n [] h k d lt = absurd (omega arith)
all_below n (a ∷ as_) h zero d lt = h.0
all_below n (a ∷ as_) h (suc k) d lt = all_below n as_ h.1 k d (omega arith)

pub each_lower : (n m : ℕ) → n ≤ m → (args : List Arg) → EachBelow n args → EachBelow m args
each_lower n m le [] h = tt
each_lower n m le (Name k ∷ as_) h = (let lt = h.0 in omega arith, each_lower n m le as_ h.1)
each_lower n m le (Number z ∷ as_) h = (tt, each_lower n m le as_ h.1)

-- the names of a statement, and of its arguments
module _ {script : Script} {table : Table} {n : ℕ} {x : Statement} (step : IsStep script table n x) (defer : Option (ℕ × ℕ)) where
  abbrev pub its_names : ℕ → Names
  its_names made = record { kinds = step.accepted.kinds; made = made }

  abbrev pub its_many : ℕ
  its_many = length (setting script table).names

  pub args_below : (made : ℕ) (ps : List Param) (as_ : List Arg) → args_fit (its_names made) defer ps as_ ≡ true
      → (length as_ ≡ length ps) × EachBelow its_many as_
  args_below made [] [] e = (refl, tt)
  args_below made [] (a ∷ as_) e = absurd cc
  args_below made (p ∷ ps) [] e = absurd cc
  args_below made (p ∷ ps) (a ∷ as_) e =
      let parts = and_parts (arg_fits (its_names made) defer p a) (args_fit (its_names made) defer ps as_) e in
      let more = args_below made ps as_ parts.1 in
      (ap suc more.0, (one a parts.0, more.1))
    where
      one : (a : Arg) → arg_fits (its_names made) defer p a ≡ true → IsNameBelow its_many a
      one (Name m) h = used_below step made m (kinds_for p.kind (is_deferred defer m)) h
      one (Number z) h = tt

  pub all_below_names : (made : ℕ) (ns : List ℕ) → all_used (its_names made) ns ≡ true → (k d : ℕ) → k < length ns → get_or ns k d < its_many
  all_below_names made [] e k d lt = absurd (omega arith)
  all_below_names made (m ∷ ns) e zero d lt = used_below step made m (kind.Handle ∷ [])
      (and_parts (uses (its_names made) m (kind.Handle ∷ [])) (list_all (λ n. uses (its_names made) n (kind.Handle ∷ [])) ns) e).0
  all_below_names made (m ∷ ns) e (suc k) d lt = all_below_names made ns
      (and_parts (uses (its_names made) m (kind.Handle ∷ [])) (list_all (λ n. uses (its_names made) n (kind.Handle ∷ [])) ns) e).1 k d (omega arith)

module _ (line : ℕ) (home : Box NewJob Global) (asked : NewJob) where
  abbrev pub x : Statement
  x = record { line = line; act = Scheduled (in_box home (undeferred asked)) }

  module _ {script : Script} {table : Table} {n : ℕ} (step : IsStep script table n x) where
    abbrev names : ℕ → Names
    names made = record { kinds = step.accepted.kinds; made = made }

    abbrev many : ℕ
    many = length (setting script table).names

    pub record IsText : Type 0 where
      pub source : Kernel
      pub has : slice_get script.kernels.items asked.kernel ≡ Some source
      pub checked : IsChecked source
      pub handle_below : asked.handle < many
      pub each : length asked.args.items ≡ length source.params.items
      pub few : length asked.args.items ≤ 16
      pub below : EachBelow many asked.args.items
      pub one : one_of source.parallel (is_some asked.cut) false ≡ true
      pub cut_fit : cut_fits asked.cut ≡ true
      pub after_below : (k d : ℕ) → k < length asked.after.items → get_or asked.after.items k d < many

    pub text : IsText
    text =
        let fit = fits_at step in
        let parts = and_parts (makes (names fit.made) asked.handle kind.Handle)
        (schedule_fits (names fit.made) (slice_get script.kernels.items asked.kernel) asked.args.items asked.cut None asked.waive.items asked.after.items)
        fit.fits in
        by fit.made (made_below step fit.made asked.handle kind.Handle parts.0) (slice_get script.kernels.items asked.kernel) refl parts.1
      where
        by : (made : ℕ) → asked.handle < many → (o : Option Kernel) → slice_get script.kernels.items asked.kernel ≡ o
            → schedule_fits (names made) o asked.args.items asked.cut None asked.waive.items asked.after.items ≡ true → IsText
        by made lt None at e = absurd cc
        by made lt (Some k) at e =
            let a = and_parts (args_fit (names made) None k.params.items asked.args.items && one_of k.parallel (is_some asked.cut) false) _ e in
            let b = and_parts (args_fit (names made) None k.params.items asked.args.items) (one_of k.parallel (is_some asked.cut) false) a.0 in
            let c = and_parts (cut_fits asked.cut && true) _ a.1 in
            let f = and_parts (cut_fits asked.cut) true c.0 in
            let d = and_parts _ (all_used (names made) asked.after.items) c.1 in
            let below = args_below step None made k.params.items asked.args.items b.0 in
            let checked = step.accepted.kernels asked.kernel k at in
            let few = leb-true (length k.params.items) MOST_PARAMS checked.count in
            record {
              source = k;
              has = at;
              checked = checked;
              handle_below = lt;
              each = below.0;
              few = (let e = below.0 in omega arith);
              below = below.1;
              one = b.1;
              cut_fit = f.0;
              after_below = all_below_names step None made asked.after.items d.1;
            }
