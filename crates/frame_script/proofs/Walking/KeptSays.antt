-- What a statement says stays the same when more names and kernels are known.
use Rattle.std.proofs.Common.{◌≡◌, ℕ, Bool, true, false, arith, List, [], ◌∷◌, ◌++◌, length, map, Option, Some, None, refl, sym, ◌∙◌, ap, subst, unwrap_or}
use Rattle.frame_ast.specs.declared.kernel.FaultKind.{FaultKind}
use Rattle.frame_ast.specs.declared.kernel.Param.{Param}
use Rattle.kernel_raw.specs.declared.fault.StaticFault.{StaticFault}
use Rattle.frame_ast.specs.declared.script.Arg.TheVariants as given
use Rattle.frame_ast.specs.declared.name_kind.NameKind.{NameKind}
use Rattle.frame_ast.specs.Lists.{first_some}
use Rattle.script_text.specs.declared.raw.RawArg.{RawArg}
use Rattle.script_text.specs.declared.raw.RawArg.TheVariants as arg
use Rattle.script_text.specs.declared.raw.RawSizes.{RawSizes}
use Rattle.script_text.specs.declared.raw.RawSizes.TheVariants as sizes
use Rattle.script_text.specs.declared.source.Source.{Source}
use Rattle.script_text.specs.Sources.{text_at, number_at}
use Rattle.script_names.specs.Names.{Name, place_in}
use Rattle.script_checks.specs.Faults.{unless, misfit, use_fault, handles_faults, args_faults, arg_fault, sizes_faults}
use Rattle.script_checks.specs.Spelling.{place_of, names_with, arg_of, defer_of}
use Rattle.frame_script.specs.Walking.{KeepsNames}
use Rattle.script_names.proofs.PlaceLemmas.{kind_missing, place_kept, new_place}

-- PARTS WITHOUT A FAULT

pub parted : (a : Option StaticFault) (more : List (Option StaticFault)) → first_some (a ∷ more) ≡ None → (a ≡ None) × (first_some more ≡ None)
unfolding first_some
parted None more h = (refl, h)
parted (Some f) more h = cc

pub joined : (xs ys : List (Option StaticFault)) → first_some (xs ++ ys) ≡ None → (first_some xs ≡ None) × (first_some ys ≡ None)
unfolding first_some
joined [] ys h = (refl, h)
joined (None ∷ xs) ys h = joined xs ys h
joined (Some f ∷ xs) ys h = cc

pub holds : (b : Bool) (kind : FaultKind) (at : ℕ) → unless b kind at ≡ None → b ≡ true
holds true kind at h = refl
holds false kind at h = cc

-- KNOWN NAMES

abbrev pub Has : Source → List Name → ℕ → Type 0
Has s names at = (place : ℕ) × (place_in names (text_at s at) ≡ Some place)

used_by : (s : Source) (names : List Name) (kinds : List NameKind) (at : ℕ) → use_fault s names kinds at ≡ None → (o : Option ℕ)
    → place_in names (text_at s at) ≡ o → Has s names at
used_by s names kinds at h (Some place) e = (place, e)
used_by s names kinds at h None e =
    let bad : misfit None kinds at ≡ None = subst (λ o. misfit o kinds at ≡ None) (kind_missing names (text_at s at) e) h in absurd cc

pub used : (s : Source) (names : List Name) (kinds : List NameKind) (at : ℕ) → use_fault s names kinds at ≡ None → Has s names at
used s names kinds at h = used_by s names kinds at h (place_in names (text_at s at)) refl

pub still : (s : Source) (names : List Name) (at : ℕ) (m : Option (ℕ × NameKind)) → Has s names at → Has s (names_with s names m) at
still s names at None has = has
still s names at (Some m) has = (has.0, place_kept names (text_at s m.0) (text_at s at) m.1 has.0 has.1)

made_by : (s : Source) (names : List Name) (at : ℕ) (kind : NameKind) → (o : Option ℕ) → place_in names (text_at s at) ≡ o
    → Has s (names_with s names (Some (at, kind))) at
made_by s names at kind (Some place) e = (place, place_kept names (text_at s at) (text_at s at) kind place e)
made_by s names at kind None e = (length names, new_place names (text_at s at) kind e)

pub made : (s : Source) (names : List Name) (at : ℕ) (kind : NameKind) → Has s (names_with s names (Some (at, kind))) at
made s names at kind = made_by s names at kind (place_in names (text_at s at)) refl

pub same_place : (s : Source) (names final : List Name) (at : ℕ) → KeepsNames names final → Has s names at → place_of s names at ≡ place_of s final at
same_place s names final at keeps has = ap (λ o. unwrap_or o 0) (has.1 ∙ sym (keeps (text_at s at) has.0 has.1))

pub same_used : (s : Source) (names final : List Name) (m : Option (ℕ × NameKind)) (kinds : List NameKind) (at : ℕ) → KeepsNames (names_with s names m) final →
    use_fault s names kinds at ≡ None → place_of s (names_with s names m) at ≡ place_of s final at
same_used s names final m kinds at keeps h = same_place s (names_with s names m) final at keeps (still s names at m (used s names kinds at h))

pub same_made : (s : Source) (names final : List Name) (at : ℕ) (kind : NameKind) → KeepsNames (names_with s names (Some (at, kind))) final →
    place_of s (names_with s names (Some (at, kind))) at ≡ place_of s final at
same_made s names final at kind keeps = same_place s (names_with s names (Some (at, kind))) final at keeps (made s names at kind)

-- LISTS OF THEM

pair_same : {A : Type 0} (x y : A) (xs ys : List A) → x ≡ y → xs ≡ ys → x ∷ xs ≡ y ∷ ys
pair_same x y xs ys e f = ap (λ z. z ∷ xs) e ∙ ap (λ zs. y ∷ zs) f

pub same_handles : (s : Source) (names final : List Name) (m : Option (ℕ × NameKind)) (ats : List ℕ) → KeepsNames (names_with s names m) final →
    first_some (handles_faults s names ats) ≡ None → map (place_of s (names_with s names m)) ats ≡ map (place_of s final) ats
same_handles s names final m [] keeps h = refl
same_handles s names final m (at ∷ ats) keeps h =
    let p = parted (use_fault s names (_) at) (handles_faults s names ats) h in
    pair_same (place_of s (names_with s names m) at) (place_of s final at) _ _ (same_used s names final m _ at keeps p.0)
    (same_handles s names final m ats keeps p.1)

-- ARGUMENTS AND SIZES

same_arg : (s : Source) (names final : List Name) (m : Option (ℕ × NameKind)) (cut : RawSizes) (p : Param) (a : RawArg)
    → KeepsNames (names_with s names m) final →
    arg_fault s names cut p.kind a ≡ None → arg_of s (names_with s names m) a ≡ arg_of s final a
same_arg s names final m cut p (arg.Name at) keeps h = ap (λ n. given.Name n) (same_used s names final m _ at keeps h)
same_arg s names final m cut p (arg.Number n) keeps h = refl

pub same_args : (s : Source) (names final : List Name) (m : Option (ℕ × NameKind)) (cut : RawSizes) (params : List Param) (args : List RawArg)
    → KeepsNames (names_with s names m) final →
    length args ≡ length params → first_some (args_faults s names cut params args) ≡ None
    → map (arg_of s (names_with s names m)) args ≡ map (arg_of s final) args
same_args s names final m cut params [] keeps same h = refl
same_args s names final m cut [] (a ∷ args) keeps same h = cc
same_args s names final m cut (p ∷ params) (a ∷ args) keeps same h =
    let r = parted (arg_fault s names cut p.kind a) (args_faults s names cut params args) h in
    let e : length args ≡ length params = omega (arith, same) in
    pair_same (arg_of s (names_with s names m) a) (arg_of s final a) _ _ (same_arg s names final m cut p a keeps r.0)
    (same_args s names final m cut params args keeps e r.1)

pub same_defer : (s : Source) (names final : List Name) (m : Option (ℕ × NameKind)) (cut : RawSizes) → KeepsNames (names_with s names m) final →
    first_some (sizes_faults s names cut) ≡ None → defer_of s (names_with s names m) cut ≡ defer_of s final cut
same_defer s names final m sizes.None keeps h = refl
same_defer s names final m (sizes.Length len batch) keeps h = refl
same_defer s names final m (sizes.Defer list batch) keeps h =
    let p = parted (use_fault s names _ list) _ h in
    ap (λ place. Some (place, number_at s batch)) (same_used s names final m _ list keeps p.0)
