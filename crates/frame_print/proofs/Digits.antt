-- The digits of short numbers, as they are written.
use Rattle.std.proofs.Common.{◌≡◌, ℕ, ◌+◌, ◌/◌, ◌%◌, ◌≤◌, ◌<◌, List, [], ◌∷◌, ◌++◌, sym, ap, ◌∙◌, arith, append_assoc}
use Rattle.std.proofs.lemmas.Fmt.{decimal_digit}
use Rattle.std.specs.Fmt.{decimal}
use Rattle.itoa.proofs.Decimal.{pair, decimal_two, decimal_pair}

-- one part was kept, which is the whole text
pub kept_one : (w w1 a text : List ℕ) → w1 ≡ w ++ a → text ≡ a → w1 ≡ w ++ text
kept_one w w1 a text p e = p ∙ ap (λ l. w ++ l) (sym e)

-- two parts were kept, which are the whole text
pub kept_two : (w w1 w2 a b text : List ℕ) → w1 ≡ w ++ a → w2 ≡ w1 ++ b → text ≡ a ++ b → w2 ≡ w ++ text
kept_two w w1 w2 a b text p q e = q ∙ ap (λ l. l ++ b) p ∙ append_assoc w a b ∙ ap (λ l. w ++ l) (sym e)

-- a number of three digits
pub three_digits : (n : ℕ) → 100 ≤ n → n < 1000 → decimal n ≡ ((48 + n / 100) ∷ []) ++ pair (n % 100)
three_digits n lo hi =
    decimal_pair n lo (omega arith) ∙ ap (λ l. l ++ pair (n % 100)) (decimal_digit (n / 100) (omega arith))

-- a number of four digits
pub four_digits : (n : ℕ) → 1000 ≤ n → n < 10000 → decimal n ≡ pair (n / 100) ++ pair (n % 100)
four_digits n lo hi =
    decimal_pair n (omega arith) (omega arith)
    ∙ ap (λ l. l ++ pair (n % 100)) (decimal_two (n / 100) (omega arith) (omega arith))
