-- A name that is looked for among some.
use Rattle.std.proofs.Common.{◌≡◌, refl, ap, ◌∙◌, ℕ, List, [], Option, Some, None, option_map, unwrap_or, get_or, slice_get}
use Rattle.std.proofs.lemmas.Option.{unwrap_or-slice_get}

seen_or : {X Y : Type 0} (see : X → Y) (found : Option X) (other : X) → see (unwrap_or found other) ≡ unwrap_or (option_map see found) (see other)
seen_or see None other = refl
seen_or see (Some x) other = refl

-- the one that is found, or else one that is seen as empty
pub found_or_empty : {X : Type 0} (see : X → List ℕ) (names : List (List ℕ)) (place : ℕ) (found : Option X) (other answer : X)
    → answer ≡ unwrap_or found other → option_map see found ≡ slice_get names place → see other ≡ [] → see answer ≡ get_or names place []
found_or_empty see names place found other answer is there empty =
    ap see is ∙ seen_or see found other ∙ ap (λ it. unwrap_or it (see other)) there
    ∙ ap (λ it. unwrap_or (slice_get names place) it) empty ∙ unwrap_or-slice_get names place []
