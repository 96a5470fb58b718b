-- Small lemmas on tests, options and numbers.
use Rattle.std.proofs.Common.{◌≡◌, ◌≢◌, ℕ, ◌<◌, ◌⊎◌, ⊎_elim, Bool, true, false, cond, ◌&&◌, not, eqb, eq-eqb, ne_eqb, ap, arith, Some, None}
use Rattle.std.proofs.lemmas.Bool.{cases_eq}

pub not_both : {b : Bool} → b ≡ true → b ≡ false → ⊥
not_both p q = cc

pub some_is : {A : Type 0} {x y : A} → Some x ≡ Some y → x ≡ y
some_is e = cc

pub none_some : {A : Type 0} {x : A} → None ≡ Some x → ⊥
none_some e = cc

pub either_side : (i j : ℕ) → i ≢ j → (i < j) ⊎ (j < i)
either_side i j n = grind arith

-- what a test with two parts says, where the first part is known
pub and_of : (a b : Bool) → a ≡ true → (a && b) ≡ b
and_of a b e = ap (λ (x : Bool). x && b) e

pub and_none : (a b : Bool) → a ≡ false → (a && b) ≡ false
and_none a b e = ap (λ (x : Bool). x && b) e

pub same_and : (a : Bool) {b c : Bool} → b ≡ c → (a && b) ≡ (a && c)
same_and a e = ap (λ (x : Bool). a && x) e

-- a choice by a number
pub chosen : {A : Type 0} (i j : ℕ) (x y : A) → i ≡ j → cond (eqb i j) x y ≡ x
chosen i j x y q = ap (λ (b : Bool). cond b x y) (eq-eqb i j q)

pub not_chosen : {A : Type 0} (i j : ℕ) (x y : A) → i ≢ j → cond (eqb i j) x y ≡ y
not_chosen i j x y n = ap (λ (b : Bool). cond b x y) (ne_eqb i j n)

-- two numbers are equal or not
pub by_equal : {A : Type 0} (i j : ℕ) → (i ≡ j → A) → (i ≢ j → A) → A
by_equal i j same other = ⊎_elim same other (cases_eq i j)

pub not_zero : (n : ℕ) → n ≢ 0 → not (eqb n 0) ≡ true
not_zero n ne = ap not (ne_eqb n 0 ne)
