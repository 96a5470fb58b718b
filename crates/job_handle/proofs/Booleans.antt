-- Tests that mean the same, and tests that contradict each other.
use Rattle.std.proofs.Common.{◌≡◌, Bool, true, false, refl, sym}

pub not_both : {b : Bool} → b ≡ true → b ≡ false → ⊥
not_both p q = cc

-- two tests with the same meaning
pub same_test : (a b : Bool) → (a ≡ true → b ≡ true) → (b ≡ true → a ≡ true) → a ≡ b
same_test true true f g = refl
same_test true false f g = sym (f refl)
same_test false true f g = g refl
same_test false false f g = refl
