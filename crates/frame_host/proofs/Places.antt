-- The name that is looked at, and those after it.
use Rattle.std.proofs.Common.{◌≡◌, sym, ap, ◌∙◌, ℕ, suc, ◌+◌, Bool, true, false, List, ◌∷◌, drop, drop-cons, Option, Some, option_map, slice_get, arith}
use Rattle.std.specs.Prelude.{if◌then◌else◌}
use Rattle.std.specs.Str.{bytes_eq}
use Rattle.std.proofs.lemmas.Option.{slice_get_within, get_or_from_slice_get}
use Rattle.frame_host.specs.Reading.{place_from}

module _ {X : Type 0} (see : X → List ℕ) (bytes : List ℕ) (names : List (List ℕ)) (i : ℕ) (found : Option X) (name : X)
    (there : option_map see found ≡ slice_get names i) (is : found ≡ Some name) where
  at : slice_get names i ≡ Some (see name)
  at = sym there ∙ ap (option_map see) is

  next : drop i names ≡ see name ∷ drop (suc i) names
  next = drop-cons names i (see name) (slice_get_within names i (see name) at)
      ∙ ap (λ text. text ∷ drop (suc i) names) (get_or_from_slice_get names i (see name) (see name) at)

  here_or_later : (same : Bool) → bytes_eq (see name) bytes ≡ same
      → place_from i bytes (drop i names) ≡ (if same then Some i else place_from (suc i) bytes (drop (suc i) names))
  here_or_later same e =
      ap (place_from i bytes) next ∙ ap (λ b. if b then Some i else place_from (suc i) bytes (drop (suc i) names)) e

  pub place_here : bytes_eq (see name) bytes ≡ true → place_from i bytes (drop i names) ≡ Some i
  place_here e = here_or_later true e

  pub place_later : bytes_eq (see name) bytes ≡ false → place_from i bytes (drop i names) ≡ place_from (i + 1) bytes (drop (i + 1) names)
  place_later e =
      let one_more : suc i ≡ i + 1 = omega arith in
      here_or_later false e ∙ ap (λ n. place_from n bytes (drop n names)) one_more
