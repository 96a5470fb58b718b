-- Tests, of numbers among others.
use Rattle.std.proofs.Common.{◌≡◌, ◌≢◌, ℤ, Bool, T, refl, true, false, sym, ◌∙◌, inl, inr, ◌⊎◌}
use Rattle.std.specs.Prelude.{IsTrue}
use Rattle.std.specs.Ordering.{int_eq}
use Rattle.std.proofs.lemmas.Bool.{cases_Bool, true≢false}
use Rattle.std.proofs.lemmas.Bool.Decides.{Decides-int_eq}

pub same_int : (x y : ℤ) → x ≡ y → int_eq x y ≡ true
same_int x y e = (Decides-int_eq x y).1 e

pub other_int : (x y : ℤ) → x ≢ y → int_eq x y ≡ false
other_int x y ne = elim (cases_Bool (int_eq x y)) [ inl t ↦ absurd (ne ((Decides-int_eq x y).0 t)) | inr f ↦ f ]

pub cases_int : (a b : ℤ) → (a ≡ b) ⊎ (a ≢ b)
cases_int a b = elim (cases_Bool (int_eq a b)) [ inl e ↦ inl ((Decides-int_eq a b).0 e) | inr f ↦ inr (λ e. true≢false (sym ((Decides-int_eq a b).1 e) ∙ f)) ]

pub int_eq-sym : (a b : ℤ) → int_eq a b ≡ int_eq b a
int_eq-sym a b = elim (cases_int a b) [
  | inl e ↦ same_int a b e ∙ sym (same_int b a (sym e))
  | inr ne ↦ other_int a b ne ∙ sym (other_int b a (λ e. ne (sym e)))
]

-- the two ways in which std says that a test holds
pub to_T : (b : Bool) → IsTrue b → T b
to_T true h = tt
to_T false h = absurd (true≢false (sym h))

pub from_T : (b : Bool) → T b → IsTrue b
from_T true h = refl
from_T false h = absurd h
