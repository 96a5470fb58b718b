-- A schedule without a fault fits.
use Rattle.std.proofs.Common.{◌≡◌, ℕ, ◌≤◌, Bool, true, false, ◌&&◌, ℤ, Box, Global, List, [], ◌∷◌, length, map, Option, None, Some, is_some, slice_get, refl, sym, ◌∙◌, ap, subst, arith, unwrap_or}
use Rattle.std.specs.List.{list_all}
use Rattle.std.specs.Str.{bytes_eq}
use Rattle.std.specs.String.{string_bytes}
use Rattle.std.proofs.lemmas.Bool.{and_from, and_parts, eqb-true, eq-eqb, false≢true}
use Rattle.std.proofs.lemmas.Slice.Eq.{bytes_eq-Decides}
use Rattle.frame_ast.specs.declared.kernel.Kernel.{Kernel}
use Rattle.frame_ast.specs.declared.kernel.Param.{Param}
use Rattle.frame_ast.specs.declared.kernel.ParamKind.{ParamKind}
use Rattle.frame_ast.specs.declared.kernel.ParamKind.TheVariants as param
use Rattle.frame_ast.specs.declared.script.Arg.{Arg}
use Rattle.frame_ast.specs.declared.script.NewJob.{NewJob}
use Rattle.frame_ast.specs.declared.script.Order.TheVariants as order
use Rattle.frame_ast.specs.Schedules.{is_array, writes_to}
use Rattle.frame_ast.specs.Accepted.{kinds_for, guard_fits, makes, args_fit, arg_fits, waive_fits, cut_fits, defer_fits, one_of, schedule_fits}
use Rattle.frame_ast.specs.Accepted as accepted
use Rattle.frame_ast.specs.declared.name_kind.NameKind.{NameKind}
use Rattle.frame_ast.specs.declared.name_kind.NameKind.TheVariants as kind
use Rattle.frame_ast.specs.Lists.{first_some}
use Rattle.script_text.specs.declared.raw.RawArg.{RawArg}
use Rattle.script_text.specs.declared.raw.RawArg.TheVariants.{Name, Number}
use Rattle.script_text.specs.declared.raw.RawSizes.{RawSizes}
use Rattle.script_text.specs.declared.raw.RawSizes.TheVariants as sizes
use Rattle.script_text.specs.declared.source.Source.{Source}
use Rattle.script_text.specs.Sources.{text_at}
use Rattle.script_names.specs.Names as names
use Rattle.script_text.specs.Raw.{Schedule}
use Rattle.script_checks.specs.Faults.{Scope, is_deferred, arg_fault, args_faults, sizes_fit, room_fits, takes, kernel_fault, sizes_faults, kernel_in, param_in, waived_fault, waive_fault, scheduled_faults, order_faults}
use Rattle.script_checks.specs.Spelling.{place_of, kernel_place, param_place, params_of, params_named, arg_of, cut_of, defer_of, names_after, SaysJob}
use Rattle.script_checks.proofs.NumberLemmas.{holds_from}
use Rattle.script_checks.proofs.JobLemmas.{found_at}
use Rattle.frame_script.proofs.Accepting.Places.{found}
use Rattle.frame_script.proofs.Accepting.Names.{Leads, leads_all, scene, first_parts, join_parts, used, handles_used, make}
use Rattle.frame_script.proofs.Accepting.Fits.{Fits, limits}

-- KERNELS AND PARAMETERS

-- a kernel that is known stands at its place among all
kernel_known : (earlier kernels : List Kernel) (text : List ℕ) (k : Kernel) → Leads earlier kernels → kernel_in earlier text ≡ Some k →
    (slice_get kernels (kernel_place kernels text) ≡ Some k) × (kernel_in kernels text ≡ Some k)
kernel_known earlier kernels text k leads h =
    let f = found (λ j. bytes_eq text (string_bytes j.name)) earlier kernels leads.more k leads.is h in
    (ap (λ o. slice_get kernels (unwrap_or o 0)) f.at ∙ f.there, found_at (λ j. bytes_eq text (string_bytes j.name)) kernels f.place f.at ∙ f.there)

param_known : (params : List Param) (text : List ℕ) (p : Param) → param_in params text ≡ Some p → slice_get params (param_place params text) ≡ Some p
param_known params text p h =
    let all = leads_all params in
    let f = found (λ j. bytes_eq text (string_bytes j.name)) params params all.more p all.is h in
    ap (λ o. slice_get params (unwrap_or o 0)) f.at ∙ f.there

-- ARGUMENTS

-- after `defer` an array takes more kinds
array_wider : (o : Option NameKind) → accepted.kind_in o (kinds_for param.Array false) ≡ true → accepted.kind_in o (kinds_for param.Array true) ≡ true
array_wider None h = h
array_wider (Some kind.Array) h = refl
array_wider (Some kind.Slice) h = refl
array_wider (Some kind.View) h = refl
array_wider (Some kind.List) h = refl
array_wider (Some kind.Reference) h = cc
array_wider (Some kind.Map) h = cc
array_wider (Some kind.Stream) h = cc
array_wider (Some kind.Handle) h = cc

wider : (k : ParamKind) (o : Option NameKind) → accepted.kind_in o (kinds_for k false) ≡ true → accepted.kind_in o (kinds_for k true) ≡ true
wider param.Int o h = h
wider param.Array o h = array_wider o h
wider param.List o h = h
wider param.Ref o h = h
wider param.Map o h = h
wider param.Stream o h = h

widened : (k : ParamKind) (o : Option NameKind) (d e : Bool) → (d ≡ true → e ≡ true) → accepted.kind_in o (kinds_for k d) ≡ true
    → accepted.kind_in o (kinds_for k e) ≡ true
widened k o true true more h = h
widened k o true false more h = absurd (false≢true (more refl))
widened k o false true more h = wider k o h
widened k o false false more h = h

-- the list after `defer` by its name is that by its place
deferred_alike : (s : Source) (all : List names.Name) (cut : RawSizes) (at : ℕ) → is_deferred s cut at ≡ true
    → accepted.is_deferred (defer_of s all cut) (place_of s all at) ≡ true
deferred_alike s all sizes.None at h = h
deferred_alike s all (sizes.Length len batch) at h = h
deferred_alike s all (sizes.Defer list batch) at h =
    let same : text_at s list ≡ text_at s at = (bytes_eq-Decides _ _).0 h in
    eq-eqb _ _ (ap (λ t. unwrap_or (names.place_in all t) 0) same)

module _ (s : Source) (here all : List names.Name) (made : ℕ) (cut : RawSizes) (leads : Leads here all) (enough : length here ≤ made) where
  argument : (p : Param) (a : RawArg) → arg_fault s here cut p.kind a ≡ None → arg_fits (scene all made) (defer_of s all cut) p (arg_of s all a) ≡ true
  argument p (Name at) h =
      let u = and_parts _ _ (used s here all made (kinds_for p.kind (is_deferred s cut at)) at leads enough h) in
      and_from _ _ u.0 (widened p.kind _ (is_deferred s cut at) _ (deferred_alike s all cut at) u.1)
  argument p (Number n) h = holds_from _ _ _ (first_parts _ _ h).0

  pub arguments : (params : List Param) (args : List RawArg) → length args ≡ length params → first_some (args_faults s here cut params args) ≡ None →
      args_fit (scene all made) (defer_of s all cut) params (map (arg_of s all) args) ≡ true
  arguments [] [] many h = refl
  arguments [] (a ∷ args) many h = absurd (omega arith)
  arguments (p ∷ params) [] many h = absurd (omega arith)
  arguments (p ∷ params) (a ∷ args) many h =
      let q = first_parts _ _ h in
      and_from _ _ (argument p a q.0) (arguments params args (omega arith) q.1)

  -- SIZES

  deferring : (k : Kernel) → first_some (sizes_faults s here cut) ≡ None → room_fits (guard_fits k) cut ≡ true
      → defer_fits (scene all made) k (defer_of s all cut) ≡ true
  deferring k h room = by cut h room
    where
      by : (z : RawSizes) → first_some (sizes_faults s here z) ≡ None → room_fits (guard_fits k) z ≡ true
          → defer_fits (scene all made) k (defer_of s all z) ≡ true
      by sizes.None h room = refl
      by (sizes.Length len batch) h room = refl
      by (sizes.Defer list batch) h room =
          let p = first_parts _ _ h in
          let n = limits s _ _ batch (first_parts _ _ p.1).0 in
          and_from _ _ (and_from _ _ (used s here all made (kind.List ∷ []) list leads enough p.0) (and_from _ _ n.0 n.1)) room

-- a parallel kernel has exactly one of the two sizes, and another one none
one : (s : Source) (all : List names.Name) (parallel : Bool) (cut : RawSizes) → sizes_fit parallel cut ≡ true
    → one_of parallel (is_some (cut_of s cut)) (is_some (defer_of s all cut)) ≡ true
one s all true sizes.None h = h
one s all false sizes.None h = refl
one s all true (sizes.Length len batch) h = refl
one s all false (sizes.Length len batch) h = h
one s all true (sizes.Defer list batch) h = refl
one s all false (sizes.Defer list batch) h = h

cutting : (s : Source) (here : List names.Name) (cut : RawSizes) → first_some (sizes_faults s here cut) ≡ None → cut_fits (cut_of s cut) ≡ true
cutting s here sizes.None h = refl
cutting s here (sizes.Length len batch) h =
    let p = first_parts _ _ h in
    let n = limits s _ _ batch (first_parts _ _ p.1).0 in
    and_from _ _ (limits s _ _ len p.0).1 (and_from _ _ n.0 n.1)
cutting s here (sizes.Defer list batch) h = refl

-- WAIVED NAMES

waived_param : (parallel : Bool) (o : Option Param) (at : ℕ) → waived_fault parallel o at ≡ None
    → (p : Param) × (o ≡ Some p) × ((parallel && (is_array p.kind && writes_to p.access)) ≡ true)
waived_param parallel None at h = cc
waived_param parallel (Some p) at h = (p, refl, holds_from _ _ _ h)

waived : (s : Source) (k : Kernel) (waive : List ℕ) → first_some (map (waive_fault s k) waive) ≡ None →
    list_all (λ x. k.parallel && waive_fits (slice_get k.params.items x)) (map (λ at. param_place k.params.items (text_at s at)) waive) ≡ true
waived s k [] h = refl
waived s k (at ∷ waive) h =
    let q = first_parts _ _ h in
    let p = waived_param k.parallel (param_in k.params.items (text_at s at)) at q.0 in
    and_from _ _ (ap (λ o. k.parallel && waive_fits o) (param_known k.params.items (text_at s at) p.0 p.1) ∙ p.2) (waived s k waive q.1)

-- SCHEDULES

-- a kernel that a schedule without a fault names is known
kernel_named : (s : Source) (here : List names.Name) (o : Option Kernel) (at : ℕ) (args : List RawArg) (cut : RawSizes) (waive after : List ℕ)
    → first_some (scheduled_faults s here o at args cut waive after) ≡ None →
    (k : Kernel) × (o ≡ Some k) × (first_some (scheduled_faults s here (Some k) at args cut waive after) ≡ None)
kernel_named s here None at args cut waive after h = absurd (some_fault (first_parts _ _ h).0)
  where
    some_fault : {A : Type 0} {x : A} → ◌≡◌ {A = Option A} (Some x) None → ⊥
    some_fault e = cc
kernel_named s here (Some k) at args cut waive after h = (k, refl, h)

behind : (s : Source) (here all : List names.Name) (made : ℕ) (k : Kernel) (at : ℕ) (args : List RawArg) (cut : RawSizes) (waive after : List ℕ)
    → Leads here all → length here ≤ made →
    first_some (scheduled_faults s here (Some k) at args cut waive after) ≡ None →
    schedule_fits (scene all made) (Some k) (map (arg_of s all) args) (cut_of s cut) (defer_of s all cut)
    (map (λ x. param_place k.params.items (text_at s x)) waive) (map (place_of s all) after) ≡ true
behind s here all made k at args cut waive after leads enough h =
    let p = first_parts (kernel_fault k at args cut) _ h in
    let f = first_parts _ _ p.0 in
    let t = and_parts _ _ (holds_from (takes k args cut) _ _ f.0) in
    let room : room_fits (guard_fits k) cut ≡ true = holds_from _ _ _ (first_parts _ _ f.1).0 in
    let q = join_parts (args_faults s here cut k.params.items args) _ p.1 in
    let r = join_parts (sizes_faults s here cut) _ q.1 in
    let w = join_parts (map (waive_fault s k) waive) _ r.1 in
    and_from _ _
    (and_from _ _ (arguments s here all made cut leads enough k.params.items args (eqb-true _ _ t.0) q.0) (one s all k.parallel cut t.1))
    (and_from _ _
    (and_from _ _ (cutting s here cut r.0) (deferring s here all made cut leads enough k r.0 room))
    (and_from _ _ (waived s k waive w.0) (handles_used s here all made after leads enough w.1)))

abbrev Scheduled : Source → List names.Name → ℕ → Option Kernel → List Arg → RawSizes → (waive after : List ℕ) → Type 0
Scheduled s all made o args cut waive after = schedule_fits (scene all made) o args (cut_of s cut) (defer_of s all cut) waive after ≡ true

pub schedule_fitting : (s : Source) (c : Scope) (all : List names.Name) (made : ℕ) (literals : List (List ℤ)) (kernels : List Kernel) (rest inside at : ℕ)
    → length c.names ≤ made →
    (auto : Bool) (handle kernel : ℕ) (args : List RawArg) (cut : RawSizes) (waive after : List ℕ) (job : Box NewJob Global) →
    Leads (names_after s c.names (Schedule auto handle kernel args cut waive after)) all → Leads c.kernels kernels →
    first_some (order_faults s c at (Schedule auto handle kernel args cut waive after)) ≡ None →
    SaysJob s all kernels auto handle kernel args cut waive after job.value →
    Fits all made literals kernels rest inside (names_after s c.names (Schedule auto handle kernel args cut waive after))
    (order.Schedule job)
schedule_fitting s c all made literals kernels rest inside at enough auto handle kernel args cut waive after job leads earlier h said =
    let p = first_parts _ _ h in
    let m = make s c.names all made kind.Handle handle leads enough p.0 in
    let k = kernel_named s c.names (kernel_in c.kernels (text_at s kernel)) kernel args cut waive after p.1 in
    let there = kernel_known c.kernels kernels (text_at s kernel) k.0 earlier k.1 in
    let params : params_named s kernels kernel ≡ k.0.params.items = ap params_of there.1 in
    let waived_are : job.value.waive.items ≡ map (λ x. param_place k.0.params.items (text_at s x)) waive = said.waive_are
    ∙ ap (λ ps. map (λ x. param_place ps (text_at s x)) waive) params in
    let fits = behind s c.names all made k.0 kernel args cut waive after m.leads enough k.2 in
    let j = job.value in
    let with_args : Scheduled s all made (Some k.0) j.args.items cut j.waive.items j.after.items =
    subst (λ xs. Scheduled s all made (Some k.0) xs cut j.waive.items j.after.items) (sym said.args_are)
    (subst (λ xs. Scheduled s all made (Some k.0) (map (arg_of s all) args) cut xs j.after.items) (sym waived_are)
    (subst (λ xs. Scheduled s all made (Some k.0) (map (arg_of s all) args) cut (map (λ x. param_place k.0.params.items (text_at s x)) waive) xs)
    (sym said.after_are) fits)) in
    let with_kernel : Scheduled s all made (slice_get kernels j.kernel) j.args.items cut j.waive.items j.after.items =
    subst (λ o. Scheduled s all made o j.args.items cut j.waive.items j.after.items) (sym (ap (slice_get kernels) said.kernel_is ∙ there.0)) with_args in
    let with_sizes : schedule_fits (scene all made) (slice_get kernels j.kernel) j.args.items j.cut j.defer j.waive.items j.after.items ≡ true =
    subst (λ n. schedule_fits (scene all made) (slice_get kernels j.kernel) j.args.items n j.defer j.waive.items j.after.items ≡ true) (sym said.cut_is)
    (subst (λ d. schedule_fits (scene all made) (slice_get kernels j.kernel) j.args.items (cut_of s cut) d j.waive.items j.after.items ≡ true)
    (sym said.defer_is) with_kernel) in
    let after_it = names_after s c.names (Schedule auto handle kernel args cut waive after) in (
      and_from _ _ (subst (λ n. makes (scene all made) n kind.Handle ≡ true) (sym said.handle_is) m.fits) with_sizes,
      subst (λ n. length after_it ≤ accepted.made_after made (Some n)) (sym said.handle_is) m.enough,
    )
