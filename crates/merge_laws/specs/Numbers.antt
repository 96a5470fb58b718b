-- Lists and counts of numbers.
use Rattle.std.specs.Prelude.{◌≡◌, ℕ, zero, suc, Bool, false, ◌||◌, List, [], ◌∷◌, nat_eq, if◌then◌else◌}

-- the number is in the list
abbrev pub has : ℕ → List ℕ → Bool
has p [] = false
has p (q ∷ qs) = nat_eq p q || has p qs

-- no number stands twice in the list
abbrev pub IsOnce : List ℕ → Type 0
IsOnce [] = Unit {0}
IsOnce (q ∷ qs) = (has q qs ≡ false) × IsOnce qs

-- how many of the first n numbers pass the test
abbrev pub tally : (ℕ → Bool) → ℕ → ℕ
tally test zero = 0
tally test (suc n) = if test n then suc (tally test n) else tally test n

-- those of the first n numbers that pass the test
abbrev pub numbers_of : (ℕ → Bool) → ℕ → List ℕ
numbers_of test zero = []
numbers_of test (suc n) = if test n then n ∷ numbers_of test n else numbers_of test n

-- the list without a number
abbrev pub without_number : ℕ → List ℕ → List ℕ
without_number p [] = []
without_number p (q ∷ qs) = if nat_eq p q then without_number p qs else q ∷ without_number p qs
