-- Each parameter that a parallel kernel may write has a width, where nothing is waived.
use Rattle.std.proofs.Common.{◌≡◌, refl, sym, subst, ℕ, zero, suc, ◌+◌, ◌<◌, ◌≤◌, Bool, true, false, ◌&&◌, IsTrue, List, [], ◌∷◌, ◌++◌, Option, None, Some, slice_get, take, arith}
use Rattle.std.specs.Prelude.{nat_le, if◌then◌else◌}
use Rattle.std.specs.List.{list_all}
use Rattle.std.proofs.lemmas.Bool.{and_parts, leb-true, false≢true}
use Rattle.job_base.specs.declared.Access.{Access}
use Rattle.job_base.specs.declared.Access.TheVariants.{Read, Write as WriteOnly, Both}
use Rattle.job_base.specs.declared.limits.TheConstants.{MOST_WIDTH}
use Rattle.frame_ast.specs.declared.kernel.ParamKind.{ParamKind}
use Rattle.frame_ast.specs.declared.kernel.ParamKind.TheVariants.{Int, Array, List as KindList, Ref, Map, Stream}
use Rattle.frame_ast.specs.declared.kernel.Param.{Param}
use Rattle.frame_ast.specs.declared.kernel.Kernel.{Kernel}
use Rattle.frame_ast.specs.declared.name_kind.NameKind.TheVariants as kind
use Rattle.frame_ast.specs.declared.script.Arg.{Arg}
use Rattle.frame_ast.specs.declared.script.Arg.TheVariants.{Name, Number}
use Rattle.frame_ast.specs.declared.script.Order.{Order}
use Rattle.frame_ast.specs.declared.script.Order.TheVariants.{Schedule}
use Rattle.frame_ast.specs.Arguments.{width_of}
use Rattle.frame_ast.specs.States.{ScriptState}
use Rattle.frame_ast.specs.Schedules.{Given, writes_to, is_shared, given_args, given_length, givens, width_by, width_at, widths_from}
use Rattle.frame_ast.specs.Refusals.{first_given}
use Rattle.frame_ast.specs.Orders.{Setting, setting, kernel_params, params_of, is_parallel}
use Rattle.frame_ast.specs.Checks.{refusal}
use Rattle.frame_ast.specs.Scripts.{final}
use Rattle.frame_ast.specs.Checked.{is_read, kind_fits, param_fits, IsChecked}
use Rattle.frame_ast.specs.Accepted.{Names, is_int, makes, arg_fits, args_fit, order_fits}
use Rattle.frame_ast.specs.Fitting.{HaveWidths, WrittenParametersHaveWidths}
use Rattle.frame_ast.proofs.Naming.{args_of, fits_there}
use Rattle.frame_ast.proofs.Scheduled.{by_name, no_cause_given, none_given}

writes_not_reads : (a : Access) → writes_to a ≡ true → is_read a ≡ true → ⊥
writes_not_reads Read w r = absurd (false≢true w)
writes_not_reads WriteOnly w r = absurd (false≢true r)
writes_not_reads Both w r = absurd (false≢true r)

-- the width of a parameter that is written, of no container that is only read in parallel
width_there : (p : Param) → IsTrue (param_fits p) → writes_to p.access ≡ true → is_shared p.kind ≡ false → 0 < width_by false p p.kind
width_there p fits w alone = by p.kind parts.0 alone
  where
    parts : (kind_fits p p.kind ≡ true) × ((nat_le 1 p.by && nat_le p.by MOST_WIDTH) ≡ true)
    parts = and_parts (kind_fits p p.kind) (nat_le 1 p.by && nat_le p.by MOST_WIDTH) fits

    least : 1 ≤ p.by
    least = leb-true 1 p.by (and_parts (nat_le 1 p.by) (nat_le p.by MOST_WIDTH) parts.1).0

    by : (k : ParamKind) → kind_fits p k ≡ true → is_shared k ≡ false → 0 < width_by false p k
    by Int f a = absurd (writes_not_reads p.access w f)
    by Array f a = let e = least in omega arith
    by KindList f a = absurd (false≢true (sym a))
    by Ref f a = absurd (false≢true (sym a))
    by Map f a = absurd (false≢true (sym a))
    by Stream f a = omega arith

-- an argument that is a number is no one that is written
no_number : (p : Param) → IsTrue (param_fits p) → writes_to p.access ≡ true → is_int p.kind ≡ true → ⊥
no_number p fits w int = by p.kind (and_parts (kind_fits p p.kind) (nat_le 1 p.by && nat_le p.by MOST_WIDTH) fits).0 int
  where
    by : (k : ParamKind) → kind_fits p k ≡ true → is_int k ≡ true → ⊥
    by Int f h = writes_not_reads p.access w f
    by Array f h = absurd (false≢true h)
    by KindList f h = absurd (false≢true h)
    by Ref f h = absurd (false≢true h)
    by Map f h = absurd (false≢true h)
    by Stream f h = absurd (false≢true h)

not_shared : (w shared : Bool) → w ≡ true → (w && shared) ≡ false → shared ≡ false
not_shared true shared e h = h
not_shared false shared e h = absurd (false≢true e)

width_here : (x : ℕ) (p : Param) → writes_to p.access ≡ true → 0 < width_by false p p.kind → 0 < width_at true [] x p
width_here x p w h = subst (λ b. 0 < (if b then width_by false p p.kind else 0)) (sym w) h

abbrev is_refused : Given → Bool
is_refused g = g.need.writes && is_shared g.kind

module _ (ns : Names) (s : ScriptState) (defer : Option (ℕ × ℕ)) (more : List Given) where
  widths_there : (params : List Param) (args : List Arg) (from x : ℕ) (p : Param) → args_fit ns defer params args ≡ true → IsTrue (list_all param_fits params)
      → first_given is_refused (given_args s params args ++ more) ≡ None → slice_get params x ≡ Some p → writes_to p.access ≡ true
      → 0 < width_of (widths_from true [] from params) x
  widths_there [] args from x p fits each none at w = absurd cc
  widths_there (q ∷ ps) [] from x p fits each none at w = absurd (false≢true fits)
  widths_there (q ∷ ps) (Name n ∷ as_) from zero p fits each none at w =
      let same : q ≡ p = cc in
      let writes : writes_to q.access ≡ true = subst (λ r. writes_to r.access ≡ true) (sym same) w in
      let alone = not_shared (writes_to q.access) (is_shared q.kind) writes (none_given is_refused (by_name s q n) (given_args s ps as_ ++ more) none).0 in
      width_here from q writes (width_there q (and_parts (param_fits q) (list_all param_fits ps) each).0 writes alone)
  widths_there (q ∷ ps) (Number z ∷ as_) from zero p fits each none at w =
      let same : q ≡ p = cc in
      let writes : writes_to q.access ≡ true = subst (λ r. writes_to r.access ≡ true) (sym same) w in
      absurd (no_number q (and_parts (param_fits q) (list_all param_fits ps) each).0 writes (and_parts (is_int q.kind) (args_fit ns defer ps as_) fits).0)
  widths_there (q ∷ ps) (Name n ∷ as_) from (suc x) p fits each none at w =
      widths_there ps as_ (from + 1) x p (and_parts (arg_fits ns defer q (Name n)) (args_fit ns defer ps as_) fits).1
      (and_parts (param_fits q) (list_all param_fits ps) each).1 (none_given is_refused (by_name s q n) (given_args s ps as_ ++ more) none).1 at w
  widths_there (q ∷ ps) (Number z ∷ as_) from (suc x) p fits each none at w =
      widths_there ps as_ (from + 1) x p (and_parts (arg_fits ns defer q (Number z)) (args_fit ns defer ps as_) fits).1
      (and_parts (param_fits q) (list_all param_fits ps) each).1 none at w

params_checked : (kernels : List Kernel) (k : ℕ) → ((k : ℕ) (it : Kernel) → slice_get kernels k ≡ Some it → IsChecked it)
    → IsTrue (list_all param_fits (kernel_params (slice_get kernels k)))
params_checked kernels k checked = by (slice_get kernels k) refl
  where
    by : (o : Option Kernel) → slice_get kernels k ≡ o → IsTrue (list_all param_fits (kernel_params o))
    by None e = refl
    by (Some it) e = (checked k it e).params

pub widths_at : (g : Setting) → ((k : ℕ) (it : Kernel) → slice_get g.kernels k ≡ Some it → IsChecked it)
    → (ns : Names) (rest inside : ℕ) (s : ScriptState) (x : Order) → order_fits ns g.literals g.kernels rest inside x ≡ true → refusal g s x ≡ None
    → HaveWidths g s x
widths_at g checked ns rest inside s (Schedule job) fits none = λ x p parallel waived at w.
    let params : List Param = params_of g job.value.kernel in
    let both = and_parts (makes ns job.value.handle kind.Handle) _ fits in
    let shared = (no_cause_given s (is_parallel g job.value.kernel) job.value.auto
    (givens s params job.value.args.items job.value.defer) job.value.after.items none).shared in
    let now : first_given is_refused (givens s params job.value.args.items job.value.defer) ≡ None =
    subst (λ b. first_given (λ v. b && (v.need.writes && is_shared v.kind)) (givens s params job.value.args.items job.value.defer) ≡ None) parallel
    shared in
    subst (λ b. 0 < width_of (widths_from b job.value.waive.items 0 params) x) (sym parallel)
    (subst (λ ws. 0 < width_of (widths_from true ws 0 params) x) (sym waived)
    (widths_there ns s job.value.defer (given_length s job.value.defer) params job.value.args.items 0 x p
    (args_of ns (slice_get g.kernels job.value.kernel) job.value.args.items job.value.cut job.value.defer job.value.waive.items job.value.after.items
    both.1) (params_checked g.kernels job.value.kernel checked) now at w))
widths_at g checked ns rest inside s x fits none = tt

pub written_parameters_have_widths : WrittenParametersHaveWidths
written_parameters_have_widths script is table n x at none =
    let g : Setting = setting script table in
    let fits = fits_there g is.kinds 0 0 script.statements.items n x is.fits at in
    widths_at g is.kernels (record { kinds = is.kinds; made = fits.made }) fits.rest fits.inside (final g (take n script.statements.items)) x.act fits.fits none
