-- Steps round a circle whose number of places is a power of two, by a mask.
use Rattle.std.proofs.Common.{◌≡◌, ℕ, ◌+◌, ◌-◌, ◌*◌, ◌%◌, ◌^◌, ◌<◌, bit_and, sym, ap, subst, ◌∙◌, arith, inl, inr}
use Rattle.std.proofs.lemmas.Nat.{and_mask, mod-mul-add}
use Rattle.std.specs.Int.{IsPowerOfTwo}
use Rattle.native_map.specs.Table.{next_place, distance}
use Rattle.native_map.proofs.Probing.{next_is, distance_is, distance_below}

masked : (t x : ℕ) → IsPowerOfTwo t → bit_and x (t - 1) ≡ x % t
masked t x power = subst (λ t. bit_and x (t - 1) ≡ x % t) (sym power.1) (and_mask x power.0)

-- a number that is b and so often t
masked_is : (t x q b : ℕ) → IsPowerOfTwo t → x ≡ q * t + b → b < t → bit_and x (t - 1) ≡ b
masked_is t x q b power e lt = masked t x power ∙ ap (λ x. x % t) e ∙ mod-mul-add q t b lt

pub next_masked : (t p : ℕ) → IsPowerOfTwo t → p < t → bit_and (p + 1) (t - 1) ≡ next_place t p
next_masked t p power lt = elim (next_is t p lt) [
  | inl h ↦ masked_is t (p + 1) 0 (next_place t p) power (omega (arith, h.1)) (omega (arith, h.0, h.1))
  | inr h ↦ masked_is t (p + 1) 1 (next_place t p) power (omega (arith, h.0, h.1)) (omega (arith, h.0, h.1))
]

pub distance_masked : (t a b : ℕ) → IsPowerOfTwo t → a < t → b < t → bit_and (b + (t - a)) (t - 1) ≡ distance t a b
distance_masked t a b power ha hb =
    let below = distance_below t a b ha hb in
    elim (distance_is t a b ha hb) [
      | inl h ↦ masked_is t (b + (t - a)) 1 (distance t a b) power (omega (arith, h.1)) below
      | inr h ↦ masked_is t (b + (t - a)) 0 (distance t a b) power (omega (arith, h.1)) below
    ]
