-- The place of the name that a statement makes, in what the statement says.
use Rattle.std.proofs.Common.{◌≡◌, ℕ, ◌<◌, ◌≤◌, List, ◌∷◌, [], ◌++◌, if◌then◌else◌, length, Option, Some, None, is_some, unwrap_or, refl, sym, ◌∙◌, ap, arith}
use Rattle.std.specs.Option.{option_map}
use Rattle.frame_ast.specs.declared.kernel.Kernel.{Kernel}
use Rattle.frame_ast.specs.declared.name_kind.NameKind.{NameKind}
use Rattle.frame_ast.specs.declared.script.Order.{Order}
use Rattle.script_text.specs.declared.source.Source.{Source}
use Rattle.script_text.specs.Raw.{OrderForm, NewArray, NewColumn, NewList, NewReference, NewMap, NewStream, Slice, View, Copy, Schedule, Combine, Dispose, DisposeAuto}
use Rattle.script_text.specs.Sources.{text_at}
use Rattle.script_names.specs.Names.{Name, place_in, kind_in}
use Rattle.script_checks.specs.Faults.{made_by, made_alike}
use Rattle.script_checks.specs.Spelling.{Says, names_with, place_of}
use Rattle.frame_script.specs.Made.{made_place}
use Rattle.script_names.proofs.PlaceLemmas.{place_within, place_kept}
use Rattle.script_checks.proofs.PlaceLemmas.{first_made}

-- the same token
same_token : {a b : ℕ} {k l : NameKind} → ◌≡◌ {A = Option (ℕ × NameKind)} (Some (a, k)) (Some (b, l)) → a ≡ b
same_token e = ap (λ o. unwrap_or (option_map (λ m. m.0) o) 0) e

alike_token : {a b : ℕ} {l : NameKind} (o : Option NameKind) → made_alike a o ≡ Some (b, l) → a ≡ b
alike_token None e = cc
alike_token (Some k) e = same_token e

pub says_made : (s : Source) (names after : List Name) (kernels : List Kernel) (literals count : ℕ) (form : OrderForm) (o : Order) (at : ℕ) (kind : NameKind) →
    made_by s names form ≡ Some (at, kind) → Says s after kernels literals count form o → made_place o ≡ Some (place_of s after at)
says_made s names after kernels literals count (NewArray name len life values) o at kind e is =
    ap made_place is ∙ ap (λ x. Some (place_of s after x)) (same_token e)
says_made s names after kernels literals count (NewColumn name column life) o at kind e is =
    ap made_place is.2 ∙ ap (λ x. Some (place_of s after x)) (same_token e)
says_made s names after kernels literals count (NewList name room life) o at kind e is =
    ap made_place is ∙ ap (λ x. Some (place_of s after x)) (same_token e)
says_made s names after kernels literals count (NewReference name life value) o at kind e is =
    ap made_place is ∙ ap (λ x. Some (place_of s after x)) (same_token e)
says_made s names after kernels literals count (NewMap name room life) o at kind e is =
    ap made_place is ∙ ap (λ x. Some (place_of s after x)) (same_token e)
says_made s names after kernels literals count (NewStream name indexes room life) o at kind e is =
    ap made_place is ∙ ap (λ x. Some (place_of s after x)) (same_token e)
says_made s names after kernels literals count (Slice name of start len) o at kind e is =
    ap made_place is ∙ ap (λ x. Some (place_of s after x)) (same_token e)
says_made s names after kernels literals count (View name of) o at kind e is =
    ap made_place is ∙ ap (λ x. Some (place_of s after x)) (same_token e)
says_made s names after kernels literals count (Copy name of) o at kind e is =
    ap made_place is ∙ ap (λ x. Some (place_of s after x)) (alike_token (kind_in names (text_at s of)) e)
says_made s names after kernels literals count (Schedule auto handle kernel args cut waive later) o at kind e is =
    ap made_place is.2 ∙ ap (λ x. Some x) is.1.handle_is ∙ ap (λ x. Some (place_of s after x)) (same_token e)
says_made s names after kernels literals count (Combine name of) o at kind e is =
    ap made_place is.2 ∙ ap (λ x. Some (place_of s after x)) (same_token e)
says_made s names after kernels literals count (Dispose name later None) o at kind e is = cc
says_made s names after kernels literals count (Dispose name later (Some handle)) o at kind e is =
    ap made_place is.2 ∙ ap (λ x. Some (place_of s after x)) (same_token e)
says_made s names after kernels literals count (DisposeAuto name handle) o at kind e is =
    ap made_place is ∙ ap (λ x. Some (place_of s after x)) (same_token e)
says_made s names after kernels literals count _ o at kind e is = cc

-- a name that stands among those known before is no new one
before : (s : Source) (names : List Name) (kind : NameKind) (at place : ℕ) → place ≡ place_of s (names_with s names (Some (at, kind))) at
    → place < length names →
    (o : Option ℕ) → place_in names (text_at s at) ≡ o →
    names ≡ (if is_some o then names else names ++ record { text = text_at s at; kind = kind } ∷ [])
before s names kind at place is within (Some n) found = refl
before s names kind at place is within None none =
    let new : length names ≡ place = first_made s names kind at none ∙ sym is in
    absurd (omega (arith, new, within))

pub known_before : (s : Source) (names : List Name) (kind : NameKind) (at place : ℕ) → Some place ≡ Some (place_of s (names_with s names (Some (at, kind))) at)
    → place < length names →
    names ≡ names_with s names (Some (at, kind))
known_before s names kind at place is within =
    before s names kind at place (ap (λ o. unwrap_or o 0) is) within (place_in names (text_at s at)) refl

-- a name that stands behind those known before is a new one
behind : (s : Source) (names : List Name) (kind : NameKind) (at place : ℕ) → place ≡ place_of s (names_with s names (Some (at, kind))) at
    → length names ≤ place →
    (o : Option ℕ) → place_in names (text_at s at) ≡ o → place_in names (text_at s at) ≡ None
behind s names kind at place is past None none = none
behind s names kind at place is past (Some n) found =
    let same : place ≡ n = is ∙ ap (λ o. unwrap_or o 0) (place_kept names (text_at s at) (text_at s at) kind n found) in
    absurd (omega (arith, same, past, place_within names (text_at s at) n found))

pub new_behind : (s : Source) (names : List Name) (kind : NameKind) (at place : ℕ) → Some place ≡ Some (place_of s (names_with s names (Some (at, kind))) at)
    → length names ≤ place →
    place_in names (text_at s at) ≡ None
new_behind s names kind at place is past =
    behind s names kind at place (ap (λ o. unwrap_or o 0) is) past (place_in names (text_at s at)) refl
