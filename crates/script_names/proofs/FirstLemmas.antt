-- The first names of buckets, by the numbers that note them.
use Rattle.std.proofs.Common.{◌≡◌, ℕ, ◌+◌, ◌-◌, ◌<◌, ◌≤◌, zero, suc, List, ◌∷◌, length, map, get_or, set, replicate, Option, Some, None, refl, sym, ◌∙◌, ap, arith, rules}
use Rattle.std.specs.Option.{SomeIff}
use Rattle.std.proofs.lemmas.List.{get_or-map, map-set}
use Rattle.script_names.specs.Firsts.{place_noted}
use Rattle.script_names.specs.Index.{first_of}

-- buckets that are zeros have no names
pub none_noted : (count : ℕ) → map place_noted (replicate count 0) ≡ replicate count None
none_noted zero = refl
none_noted (suc count) = ap (λ firsts. None ∷ firsts) (none_noted count)

-- the place that a number notes is one less, where there is one
one_less : (number : ℕ) (place : Option ℕ) → SomeIff place (1 ≤ number) (number - 1) → place ≡ place_noted number
one_less zero None is = refl
one_less zero (Some place) is = absurd (omega (arith, is.0))
one_less (suc number) None is = absurd (is (omega arith))
one_less (suc number) (Some place) is =
    let less : suc number - 1 ≡ number = omega arith in
    ap (λ p. Some p) (is.1 ∙ less)

pub first_noted : (numbers : List ℕ) (bucket number : ℕ) (place : Option ℕ) → bucket < length numbers → number ≡ get_or numbers bucket number
    → SomeIff place (1 ≤ number) (number - 1) → place ≡ first_of (map place_noted numbers) bucket
first_noted numbers bucket number place within at is =
    one_less number place is ∙ (ap place_noted at ∙ sym (get_or-map place_noted numbers bucket number None within))

-- a bucket's number after it gets a name
pub set_noted : (numbers : List ℕ) (bucket place : ℕ) → map place_noted (set numbers bucket (place + 1)) ≡ set (map place_noted numbers) bucket (Some place)
set_noted numbers bucket place =
    let more : place + 1 ≡ suc place = omega arith in
    map-set place_noted numbers bucket (place + 1) ∙ ap (λ n. set (map place_noted numbers) bucket (place_noted n)) more
