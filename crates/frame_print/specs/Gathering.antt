-- A text that waits in part before a sink takes it.
use Rattle.std.specs.Prelude.{◌≡◌, ℕ, zero, suc, List, [], ◌∷◌, ◌++◌, take, codes, Option, Result, MatchResult}
use Rattle.std.specs.Borrow.{Bor}
use Rattle.std.specs.Io.KnownBytes.{Appends}

-- Behind the bytes that waited came a part of the text. Of these the sink took the first bytes, and the rest waits.
pub record Joins (old : Option (List ℕ)) (waited : List ℕ) (new : Option (List ℕ)) (waits part : List ℕ) : Type 0 where
  pub bytes : List ℕ
  pub taken : Appends old new bytes
  pub whole : waited ++ part ≡ bytes ++ waits

-- all of a part was joined at Ok, and at Err the sink took some first bytes of what waited and of the part
abbrev pub Gathers : {T E : Type 0} → Option (List ℕ) → List ℕ → Option (List ℕ) → List ℕ → Result T E → List ℕ → Type 0
Gathers old waited new waits r part =
    MatchResult r (λ _. Joins old waited new waits part) (λ _. (n : ℕ) × Appends old new (take n (waited ++ part)))

-- the bytes of some parts, one behind the other
abbrev pub joined : List (Bor (List ℕ)) → List ℕ
joined [] = []
joined (part ∷ more) = part.now ++ joined more

-- nothing before the first place of a list, and a comma and a space before every other one
abbrev pub comma_before : ℕ → List ℕ
comma_before zero = []
comma_before (suc place) = codes ", "
