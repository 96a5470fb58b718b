-- The places of the names of a statement, and what the names stand for.
use Rattle.std.proofs.Common.{◌≡◌, ℕ, Bool, true, false, List, [], ◌∷◌, length, Option, Some, None, refl, sym, ◌∙◌, ap, unwrap_or}
use Rattle.frame_ast.specs.declared.name_kind.NameKind.{NameKind}
use Rattle.frame_ast.specs.declared.name_kind.NameKind.TheVariants as variant
use Rattle.script_text.specs.declared.source.Source.{Source}
use Rattle.script_names.specs.Names.{Name, place_in, kind_in}
use Rattle.script_text.specs.Sources.{text_at}
use Rattle.script_checks.specs.Spelling.{place_of, names_with}
use Rattle.frame_ast.specs.declared.kernel.FaultKind.TheVariants.{KindMismatch}
use Rattle.frame_ast.specs.Accepted.{is_among}
use Rattle.script_checks.specs.Faults.{unless, agrees, remake_fault}
use Rattle.script_checks.specs.Checks.{IsPlace}
use Rattle.script_names.proofs.PlaceLemmas.{place_kept, new_place}

-- a known name keeps its place, whatever name is made
pub stays : (s : Source) (names : List Name) (at place : ℕ) → place_in names (text_at s at) ≡ Some place → IsPlace s names at place
stays s names at place h None = sym (ap (λ o. unwrap_or o 0) h)
stays s names at place h (Some m) = sym (ap (λ o. unwrap_or o 0) (place_kept names (text_at s m.0) (text_at s at) m.1 place h))

pub first_made : (s : Source) (names : List Name) (kind : NameKind) (at : ℕ) → place_in names (text_at s at) ≡ None →
    length names ≡ place_of s (names_with s names (Some (at, kind))) at
first_made s names kind at none = sym (ap (λ o. unwrap_or o 0) (new_place names (text_at s at) kind none))

-- the place of a name by what a look-up answers
pub made_new : (s : Source) (names : List Name) (kind : NameKind) (at place : ℕ) → None ≡ place_in names (text_at s at) → None ≡ kind_in names (text_at s at) →
    place ≡ length names → (remake_fault s names kind at ≡ None) × (place ≡ place_of s (names_with s names (Some (at, kind))) at)
made_new s names kind at place none other is =
    (ap (λ o. unless (agrees o kind) KindMismatch at) (sym other), is ∙ first_made s names kind at (sym none))

pub made_again : (s : Source) (names : List Name) (kind known : NameKind) (at place : ℕ) → Some place ≡ place_in names (text_at s at)
    → Some known ≡ kind_in names (text_at s at) →
    true ≡ is_among known (kind ∷ []) → (remake_fault s names kind at ≡ None) × (place ≡ place_of s (names_with s names (Some (at, kind))) at)
made_again s names kind known at place found is same = (
  ap (λ o. unless (agrees o kind) KindMismatch at) (sym is) ∙ ap (λ b. unless b KindMismatch at) (sym same),
  stays s names at place (sym found)
      (Some (at, kind)),
)

pub made_otherwise : (s : Source) (names : List Name) (kind known : NameKind) (at : ℕ) → Some known ≡ kind_in names (text_at s at) →
    false ≡ is_among known (kind ∷ []) → remake_fault s names kind at ≡ Some (record { at = at; kind = KindMismatch })
made_otherwise s names kind known at is other =
    ap (λ o. unless (agrees o kind) KindMismatch at) (sym is) ∙ ap (λ b. unless b KindMismatch at) (sym other)

-- A NAME THAT IS MADE UNLESS IT IS KNOWN

among_itself : (kind : NameKind) → is_among kind (kind ∷ []) ≡ true
among_itself variant.Array = refl
among_itself variant.Slice = refl
among_itself variant.View = refl
among_itself variant.List = refl
among_itself variant.Reference = refl
among_itself variant.Map = refl
among_itself variant.Stream = refl
among_itself variant.Handle = refl

-- whether it is made in its kind is asked of what it stands for afterwards
pub remade : (s : Source) (names : List Name) (kind known : NameKind) (at : ℕ) (same : Bool) → known ≡ unwrap_or (kind_in names (text_at s at)) kind →
    same ≡ is_among known (kind ∷ []) → remake_fault s names kind at ≡ unless same KindMismatch at
remade s names kind known at same is asked = by_kind (kind_in names (text_at s at)) is where
  by_kind : (o : Option NameKind) → known ≡ unwrap_or o kind → unless (agrees o kind) KindMismatch at ≡ unless same KindMismatch at
  by_kind None e = ap (λ t. unless t KindMismatch at) (sym (asked ∙ ap (λ k. is_among k (kind ∷ [])) e ∙ among_itself kind))
  by_kind (Some k) e = ap (λ t. unless t KindMismatch at) (sym (asked ∙ ap (λ k'. is_among k' (kind ∷ [])) e))
