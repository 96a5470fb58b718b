-- What is found among the first elements of a list is found among all of them, at the same place.
use Rattle.std.proofs.Common.{◌≡◌, ℕ, zero, suc, ◌+◌, ◌<◌, ◌≤◌, Bool, true, false, cond, nat_lt, nat_le, List, [], ◌∷◌, ◌++◌, length, Option, None, Some, slice_get, position, find, refl, sym, ◌∙◌, ap, arith, length-append}
use Rattle.std.specs.List.{position_or_len, prefix_len}
use Rattle.std.proofs.lemmas.Bool.Decides.{nat_tests}
use Rattle.std.proofs.lemmas.Option.{slice_get_within}
use Rattle.std.proofs.lemmas.List.Folds.{find_at}

-- TESTS

pub le_test : (m n : ℕ) → m ≤ n → nat_le m n ≡ true
le_test m n h = grind (arith, nat_tests)

pub lt_test : (m n : ℕ) → m < n → nat_lt m n ≡ true
lt_test m n h = grind (arith, nat_tests)

pub le_from : (m n : ℕ) → nat_le m n ≡ true → m ≤ n
le_from m n h = grind (arith, nat_tests)

-- PLACES

-- an element of the first part stands at its place in the whole
pub get_front : {A : Type 0} (xs ys : List A) (n : ℕ) (x : A) → slice_get xs n ≡ Some x → slice_get (xs ++ ys) n ≡ Some x
get_front [] ys n x e = cc
get_front (y ∷ xs) ys zero x e = e
get_front (y ∷ xs) ys (suc n) x e = get_front xs ys n x e

-- the first element behind a part
pub get_behind : {A : Type 0} (xs ys : List A) (y : A) → slice_get (xs ++ y ∷ ys) (length xs) ≡ Some y
get_behind [] ys y = refl
get_behind (x ∷ xs) ys y = get_behind xs ys y

one_more : (b : Bool) (n m len : ℕ) → (n < len → m ≡ n) → cond b (1 + n) 0 < suc len → cond b (1 + m) 0 ≡ cond b (1 + n) 0
one_more true n m len same h = ap (λ k. 1 + k) (same (omega arith))
one_more false n m len same h = refl

prefix_front : {A : Type 0} (p : A → Bool) (xs ys : List A) → prefix_len p xs < length xs → prefix_len p (xs ++ ys) ≡ prefix_len p xs
prefix_front p [] ys h = absurd (omega arith)
prefix_front p (x ∷ xs) ys h = one_more (p x) (prefix_len p xs) (prefix_len p (xs ++ ys)) (length xs) (prefix_front p xs ys) h

-- where the first element that passes a test stands
pub record Found {A : Type 0} (p : A → Bool) (xs all : List A) (x : A) : Type 0 where
  pub place : ℕ
  pub first : position p xs ≡ Some place
  pub at : position p all ≡ Some place
  pub within : place < length xs
  pub there : slice_get all place ≡ Some x

pub found : {A : Type 0} (p : A → Bool) (xs all more : List A) (x : A) → all ≡ xs ++ more → find p xs ≡ Some x → Found p xs all x
found p xs all more x is h =
    let n = position_or_len p xs in
    let here : slice_get xs n ≡ Some x = sym (find_at p xs) ∙ h in
    let within : n < length xs = slice_get_within xs n x here in
    let same : position_or_len p (xs ++ more) ≡ n = prefix_front _ xs more within in
    let wide : n < length (xs ++ more) = omega (arith, length-append xs more) in
    let passes : nat_lt n (length (xs ++ more)) ≡ true = lt_test _ _ wide in
    record {
      place = n;
      first = ap (λ b. cond b (Some n) None) (lt_test _ _ within);
      at = ap (position p) is ∙ (ap (λ k. cond (nat_lt k (length (xs ++ more))) (Some k) None) same ∙ ap (λ b. cond b (Some n) None) passes);
      within = within;
      there = ap (λ l. slice_get l n) is ∙ get_front xs more n x here;
    }

-- within a list something stands at each place
pub some_at : {A : Type 0} (xs : List A) (n : ℕ) → n < length xs → (x : A) × (slice_get xs n ≡ Some x)
some_at [] n h = absurd (omega arith)
some_at (x ∷ xs) zero h = (x, refl)
some_at (x ∷ xs) (suc n) h = some_at xs n (omega arith)

past : (b : Bool) {A : Type 0} (x y : A) (o : Option A) → cond b (Some x) o ≡ None → (b ≡ false) × (o ≡ None)
past true x y o h = cc
past false x y o h = (refl, h)

-- a new last element is found where none before it is
pub found_last : {A : Type 0} (p : A → Bool) (xs : List A) (new : A) → find p xs ≡ None → p new ≡ true → find p (xs ++ new ∷ []) ≡ Some new
found_last p [] new h is = ap (λ b. cond b (Some new) None) is
found_last p (x ∷ xs) new h is =
    let e = past (p x) x x (find p xs) h in
    ap (λ b. cond b (Some x) (find p (xs ++ new ∷ []))) e.0 ∙ found_last p xs new e.1 is
