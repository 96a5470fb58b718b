-- Binding arguments: what a job is given is what the laws of planning ask, where the list after `defer` may be given as an
-- array. A copy of its kernel asks the same.
use Rattle.std.proofs.Common.{◌≡◌, ◌⊎◌, ⊎_elim, ℕ, zero, suc, ◌+◌, Bool, true, false, List, [], ◌∷◌, length, Option, Some, None, refl, sym, ap, subst, ◌∙◌}
use Rattle.std.specs.Prelude.{slice_get}
use Rattle.frame_ast.specs.declared.kernel.Param.{Param}
use Rattle.frame_ast.specs.declared.kernel.ParamKind.{ParamKind}
use Rattle.frame_ast.specs.declared.kernel.ParamKind.TheVariants.{Int as IntKind, Array as ArrayKind, List as ListKind, Ref as RefKind, Map as MapKind, Stream as StreamKind}
use Rattle.frame_ast.specs.declared.name_kind.NameKind.{NameKind}
use Rattle.frame_ast.specs.declared.name_kind.NameKind.TheVariants as kind
use Rattle.frame_ast.specs.declared.script.Arg.{Arg}
use Rattle.frame_ast.specs.declared.script.Arg.TheVariants.{Name, Number}
use Rattle.frame_ast.specs.Accepted.{is_deferred}
use Rattle.frame_ast.specs.Contents.{Contents, Cells as Elements, Single, Items, Pairs, Entries}
use Rattle.frame_ast.specs.Fitting.{FitsKind, NameFits, ArgFits, ArgsFit}
use Rattle.frame_ast.specs.Kinds.{kind_of}
use Rattle.frame_ast.specs.Orders.{Setting}
use Rattle.frame_ast.specs.Schedules.{width_at, widths_from}
use Rattle.frame_ast.specs.States as states
use Rattle.frame_ast.specs.States.{ScriptState, container_at, container_of, contents_at}
use Rattle.frame_core.proofs.Small.{some_is, none_some}
use Rattle.plan_laws.specs.Binds.{bind_of, bind_for, bind_as, array_for, stream_of, start_at, bind_by, binds_by}
use Rattle.plan_laws.specs.Planned.{Outline}
use Rattle.plan_laws.specs.Printing.{FitsContents, IsUsable}
use Rattle.tree_laws.specs.Same.{SameParam, Pairwise}
use Rattle.plan_state.specs.declared.state.Planner.{Planner}
use Rattle.plan_schedules.specs.JobBinds.{as_array, as_stream, as_kind, bind_of_value, job_bind, job_binds}
use Rattle.plan_state.specs.Stands.{Agrees, Stands}
use Rattle.plan_schedules.specs.Uses.{IsNameBelow}
use Rattle.plan_state.proofs.Binding.{binds_at}
use Rattle.plan_schedules.proofs.Meaning.{some_at}
use Rattle.plan_schedules.proofs.Texts.{EachBelow}

-- ---- a value that fits a parameter

module _ (s : ScriptState) (d : Bool) where
  fits_contents : (k : ParamKind) (v : states.Value) → FitsKind s d k v → FitsContents v (s.contents (container_of v))
  fits_contents IntKind v h = absurd h
  fits_contents ArrayKind states.Dead h = absurd h
  fits_contents ArrayKind (states.Whole c) h = tt
  fits_contents ArrayKind (states.Slice c start len) h = h
  fits_contents ArrayKind (states.View c number) h = h.0
  fits_contents ArrayKind (states.Handle jobs) h = absurd h
  fits_contents ListKind states.Dead h = absurd h
  fits_contents ListKind (states.Whole c) h = tt
  fits_contents ListKind (states.Slice c start len) h = absurd h
  fits_contents ListKind (states.View c number) h = absurd h
  fits_contents ListKind (states.Handle jobs) h = absurd h
  fits_contents RefKind states.Dead h = absurd h
  fits_contents RefKind (states.Whole c) h = tt
  fits_contents RefKind (states.Slice c start len) h = absurd h
  fits_contents RefKind (states.View c number) h = absurd h
  fits_contents RefKind (states.Handle jobs) h = absurd h
  fits_contents MapKind states.Dead h = absurd h
  fits_contents MapKind (states.Whole c) h = tt
  fits_contents MapKind (states.Slice c start len) h = absurd h
  fits_contents MapKind (states.View c number) h = absurd h
  fits_contents MapKind (states.Handle jobs) h = absurd h
  fits_contents StreamKind states.Dead h = absurd h
  fits_contents StreamKind (states.Whole c) h = tt
  fits_contents StreamKind (states.Slice c start len) h = absurd h
  fits_contents StreamKind (states.View c number) h = absurd h
  fits_contents StreamKind (states.Handle jobs) h = absurd h

  -- as an array, and as a whole container

  whole_elements : (width start : ℕ) (c : Contents) → (kind_of c ≡ kind.Array) ⊎ ((d ≡ true) × (kind_of c ≡ kind.List))
      → as_array width (bind_of start c) ≡ array_for width (states.Whole 0) start c
  whole_elements width start (Elements xs) h = refl
  whole_elements width start (Single z) h = ⊎_elim (λ e. absurd cc) (λ (u : (d ≡ true) × (kind.Reference ≡ kind.List)). let e = u.1 in absurd cc) h
  whole_elements width start (Items cap xs) h = refl
  whole_elements width start (Pairs cap ps) h = refl
  whole_elements width start (Entries room es) h = ⊎_elim (λ e. absurd cc) (λ (u : (d ≡ true) × (kind.Stream ≡ kind.List)). let e = u.1 in absurd cc) h

  view_array : (width start number c : ℕ) (k : Contents) → kind_of k ≡ kind.List
      → as_array width (bind_for (states.View c number) start k) ≡ array_for width (states.View c number) start k
  view_array width start number c (Elements xs) h = refl
  view_array width start number c (Single z) h = absurd cc
  view_array width start number c (Items cap xs) h = refl
  view_array width start number c (Pairs cap ps) h = refl
  view_array width start number c (Entries room es) h = absurd cc

  array_is : (width start : ℕ) (v : states.Value) → FitsKind s d ArrayKind v
      → as_array width (bind_for v start (s.contents (container_of v))) ≡ array_for width v start (s.contents (container_of v))
  array_is width start states.Dead h = absurd h
  array_is width start (states.Whole c) h = whole_elements width start (s.contents c) h
  array_is width start (states.Slice c from len) h = refl
  array_is width start (states.View c number) h = view_array width start number c (s.contents c) h.0
  array_is width start (states.Handle jobs) h = absurd h

  whole_is : (k : NameKind) (start : ℕ) (v : states.Value) (c : Contents) → Rattle.frame_ast.specs.Fitting.IsWhole s k v → bind_for v start c ≡ bind_of start c
  whole_is k start states.Dead c h = absurd h
  whole_is k start (states.Whole n) c h = refl
  whole_is k start (states.Slice n from len) c h = absurd h
  whole_is k start (states.View n number) c h = absurd h
  whole_is k start (states.Handle jobs) c h = absurd h

  stream_is : (width start : ℕ) (c : Contents) → as_stream width (bind_of start c) ≡ stream_of width start c
  stream_is width start (Elements xs) = refl
  stream_is width start (Single z) = refl
  stream_is width start (Items cap xs) = refl
  stream_is width start (Pairs cap ps) = refl
  stream_is width start (Entries room es) = refl

  kind_is : (k : ParamKind) (width start : ℕ) (v : states.Value) → FitsKind s d k v
      → as_kind k width (bind_for v start (s.contents (container_of v))) ≡ bind_as k width v start (s.contents (container_of v))
  kind_is IntKind width start v h = absurd h
  kind_is ArrayKind width start v h = array_is width start v h
  kind_is ListKind width start v h = whole_is kind.List start v (s.contents (container_of v)) h
  kind_is RefKind width start v h = whole_is kind.Reference start v (s.contents (container_of v)) h
  kind_is MapKind width start v h = whole_is kind.Map start v (s.contents (container_of v)) h
  kind_is StreamKind width start v h = ap (as_stream width) (whole_is kind.Stream start v (s.contents (container_of v)) h)
      ∙ stream_is width start (s.contents (container_of v))

-- ---- all arguments

module _ {p : Planner} {g : Setting} {begun : ScriptState} {n : ℕ} {s : ScriptState} {found : List ℕ} (st : Stands p g begun n s found) (x : Outline)
    (a : Agrees p g begun found x) (defer : Option (ℕ × ℕ)) where
  arg_is : (q : Param) (width : ℕ) (arg : Arg) → IsNameBelow (length p.world.values.items) arg → ArgFits s defer q arg
      → job_bind p.world q.kind width arg ≡ bind_by x.starts s q width arg
  arg_is q width (Number z) below fit = refl
  arg_is q width (Name m) below fit =
      let v = some_at p.world.values.items m below in
      let usable : IsUsable s m = record { below = fit.made; fits = fits_contents s (is_deferred defer m) q.kind (s.values m) fit.value } in
      ap (λ o. as_kind q.kind width (bind_of_value p.world o)) v.1
      ∙ ap (as_kind q.kind width) (binds_at st x a m v.0 v.1 usable)
      ∙ kind_is s (is_deferred defer m) q.kind width (start_at x.starts s m) (s.values m) fit.value

  pub args_are : (parallel : Bool) (waive : List ℕ) (y : ℕ) (qs : List Param) (args : List Arg) → EachBelow (length p.world.values.items) args
      → ArgsFit s defer qs args
      → job_binds p.world parallel waive y qs args ≡ binds_by x.starts s qs (widths_from parallel waive y qs) args
  args_are parallel waive y [] args below fit = refl
  args_are parallel waive y (q ∷ qs) [] below fit = absurd fit
  args_are parallel waive y (q ∷ qs) (arg ∷ args) below fit =
      let one = arg_is q (width_at parallel waive y q) arg below.0 fit.0 in
      let more = args_are parallel waive (y + 1) qs args below.1 fit.1 in
      λ i. one i ∷ more i

-- ---- parameters that are the same

pub same_job_binds : (p : Planner) (parallel : Bool) (waive : List ℕ) (y : ℕ) (ps qs : List Param) (args : List Arg) → Pairwise SameParam ps qs
    → job_binds p.world parallel waive y ps args ≡ job_binds p.world parallel waive y qs args
same_job_binds p parallel waive y [] [] args same = refl
same_job_binds p parallel waive y [] (r ∷ qs) args same = absurd same
same_job_binds p parallel waive y (q ∷ ps) [] args same = absurd same
same_job_binds p parallel waive y (q ∷ ps) (r ∷ qs) [] same = refl
same_job_binds p parallel waive y (q ∷ ps) (r ∷ qs) (a ∷ args) same =
    let kinds = same.0.kind in
    let access = same.0.access in
    let by = same.0.by in
    let more = same_job_binds p parallel waive (y + 1) ps qs args same.1 in
    λ i. job_bind p.world (kinds i) (width_at parallel waive y (record r { kind = kinds i; access = access i; by = by i })) a ∷ more i

pub same_args_fit : (s : ScriptState) (ps qs : List Param) (args : List Arg) → Pairwise SameParam ps qs → ArgsFit s None ps args → ArgsFit s None qs args
same_args_fit s [] [] args same fit = fit
same_args_fit s [] (r ∷ qs) args same fit = absurd same
same_args_fit s (q ∷ ps) [] args same fit = absurd same
same_args_fit s (q ∷ ps) (r ∷ qs) [] same fit = absurd fit
same_args_fit s (q ∷ ps) (r ∷ qs) (Name m ∷ args) same fit = (subst (λ k. NameFits s false k m) same.0.kind fit.0, same_args_fit s ps qs args same.1 fit.1)
same_args_fit s (q ∷ ps) (r ∷ qs) (Number z ∷ args) same fit = (sym same.0.kind ∙ fit.0, same_args_fit s ps qs args same.1 fit.1)

pub same_widths : (parallel : Bool) (waive : List ℕ) (y : ℕ) (ps qs : List Param) → Pairwise SameParam ps qs
    → widths_from parallel waive y ps ≡ widths_from parallel waive y qs
same_widths parallel waive y [] [] same = refl
same_widths parallel waive y [] (r ∷ qs) same = absurd same
same_widths parallel waive y (q ∷ ps) [] same = absurd same
same_widths parallel waive y (q ∷ ps) (r ∷ qs) same =
    let kinds = same.0.kind in
    let access = same.0.access in
    let by = same.0.by in
    let more = same_widths parallel waive (y + 1) ps qs same.1 in
    λ i. width_at parallel waive y (record r { kind = kinds i; access = access i; by = by i }) ∷ more i

-- a parameter of the second has one of the first
pub same_at : (ps qs : List Param) (n : ℕ) (r : Param) → Pairwise SameParam ps qs → slice_get qs n ≡ Some r
    → (q : Param) × (slice_get ps n ≡ Some q) × (q.access ≡ r.access)
same_at [] [] n r same h = absurd (none_some h)
same_at [] (z ∷ qs) n r same h = absurd same
same_at (q ∷ ps) [] n r same h = absurd same
same_at (q ∷ ps) (z ∷ qs) zero r same h = (q, refl, same.0.access ∙ ap (λ (k : Param). k.access) (some_is h))
same_at (q ∷ ps) (z ∷ qs) (suc n) r same h = same_at ps qs n r same.1 h
