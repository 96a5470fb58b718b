-- How many `when` are among the first statements of a script.
use Rattle.std.proofs.Common.{◌≡◌, refl, ap, ◌∙◌, ℕ, zero, suc, ◌+◌, ◌<◌, ◌≤◌, Bool, true, false, cond, List, [], ◌∷◌, take, Some, count_by, arith}
use Rattle.std.specs.Prelude.{slice_get, ◌||◌}
use Rattle.std.specs.List.{list_any}
use Rattle.std.proofs.lemmas.List.Sums.{sum_by-cons}

or_right : (a b : Bool) → b ≡ true → (a || b) ≡ true
or_right true b e = refl
or_right false b e = e

module _ {X : Type 0} (p : X → Bool) where
  pub tests_rise : (m n : ℕ) (xs : List X) → m ≤ n → count_by p (take m xs) ≤ count_by p (take n xs)
  tests_rise zero n xs l = omega arith
  tests_rise (suc m) zero xs l = absurd (omega arith)
  tests_rise (suc m) (suc n) [] l = omega arith
  tests_rise (suc m) (suc n) (x ∷ xs) l = let rest = tests_rise m n xs (omega arith) in
      omega (arith, rest, sum_by-cons (λ y. cond (p y) 1 0) x (take m xs), sum_by-cons (λ y. cond (p y) 1 0) x (take n xs))

  pub tests_whole : (n : ℕ) (xs : List X) → count_by p (take n xs) ≤ count_by p xs
  tests_whole zero xs = omega arith
  tests_whole (suc n) [] = omega arith
  tests_whole (suc n) (x ∷ xs) = let rest = tests_whole n xs in omega (
    arith,
    rest,
    sum_by-cons (λ y. cond (p y) 1 0) x (take n xs),
    sum_by-cons
        (λ y. cond (p y) 1 0) x xs,
  )

  pub tests_here : (n : ℕ) (xs : List X) (x : X) → slice_get xs n ≡ Some x → p x ≡ true → count_by p (take (suc n) xs) ≡ suc (count_by p (take n xs))
  tests_here n [] x at holds = absurd cc
  tests_here zero (y ∷ xs) x at holds =
      let same : y ≡ x = cc in
      let one : ◌≡◌ {A = ℕ} (cond (p y) 1 0) 1 = ap (λ z. cond {A = ℕ} (p z) 1 0) same ∙ ap (λ b. cond {A = ℕ} b 1 0) holds in
      omega (arith, one, sum_by-cons (λ z. cond (p z) 1 0) y (take zero xs))
  tests_here (suc n) (y ∷ xs) x at holds = let rest = tests_here n xs x at holds in
      omega (arith, rest, sum_by-cons (λ z. cond (p z) 1 0) y (take (suc n) xs), sum_by-cons (λ z. cond (p z) 1 0) y (take n xs))

  pub any_at : (n : ℕ) (xs : List X) (x : X) → slice_get xs n ≡ Some x → p x ≡ true → list_any p xs ≡ true
  any_at n [] x at holds = absurd cc
  any_at zero (y ∷ xs) x at holds = let same : y ≡ x = cc in ap (λ z. p z || list_any p xs) same ∙ ap (λ b. b || list_any p xs) holds
  any_at (suc n) (y ∷ xs) x at holds = or_right (p y) (list_any p xs) (any_at n xs x at holds)

  any_head : (n : ℕ) (xs : List X) (b : Bool) → 0 < cond b 1 0 + count_by p (take n xs) → (0 < count_by p (take n xs) → list_any p xs ≡ true)
      → (b || list_any p xs) ≡ true
  any_head n xs true some rest = refl
  any_head n xs false some rest = rest (omega (arith, some))

  -- the first statements of a script in which it holds
  pub any_counted : (n : ℕ) (xs : List X) → 0 < count_by p (take n xs) → list_any p xs ≡ true
  any_counted zero xs some = absurd (omega (arith, some))
  any_counted (suc n) [] some = absurd (omega (arith, some))
  any_counted (suc n) (x ∷ xs) some =
      any_head n xs (p x) (omega (arith, some, sum_by-cons (λ z. cond (p z) 1 0) x (take n xs))) (any_counted n xs)
