-- How great a number of few digits is.
use Rattle.std.proofs.Common.{◌≡◌, ℕ, zero, ◌+◌, ◌*◌, ◌<◌, ◌≤◌, ◌^◌, ◌&&◌, cond, true, List, take, drop, Some, None, sym, ◌∙◌, ap, arith}
use Rattle.std.specs.Prelude.{nat_le}
use Rattle.std.specs.List.{prefix_len}
use Rattle.std.specs.Char.{is_ascii_digit}
use Rattle.std.proofs.lemmas.Bool.{cond-true, cond-false, and_from, and_right, le-leb, lt-leb}
use Rattle.std.proofs.Math.Nat.{pow-le-pow_right}
use Rattle.kernel_text.specs.Numbers.{value_of, front_value}

-- a value that bytes in place of digits can have: each adds at most 207
pub below : (value i : ℕ) → i < 17 → value + 23 ≤ 23 * 10 ^ i → value < 230000000000000000
below value i few h =
    let ten : zero < 10 = omega arith in
    let low : i ≤ 16 = omega (arith, few) in
    let most : 10 ^ i ≤ 10 ^ 16 = pow-le-pow_right ten low in
    omega (arith, h, most)

-- a value of digits
pub below_digits : (value i : ℕ) → i < 17 → value + 1 ≤ 10 ^ i → value < 10000000000000000
below_digits value i few h =
    let ten : zero < 10 = omega arith in
    let low : i ≤ 16 = omega (arith, few) in
    let most : 10 ^ i ≤ 10 ^ 16 = pow-le-pow_right ten low in
    omega (arith, h, most)

pub no_digit : (most : ℕ) (bytes : List ℕ) → prefix_len is_ascii_digit bytes ≡ 0 → None ≡ front_value most bytes
no_digit most bytes none = sym (ap (λ n. cond (nat_le 1 n && nat_le n most) (Some (value_of (take n bytes))) None) none)

pub too_many_digits : (most : ℕ) (bytes : List ℕ) → most < prefix_len is_ascii_digit bytes → None ≡ front_value most bytes
too_many_digits most bytes many = sym (cond-false _ _ _ (and_right _ _ (lt-leb _ _ many)))

-- where the digits end behind so many, they have the value
pub digits_end_here : (most : ℕ) (bytes : List ℕ) (end value : ℕ) → 1 ≤ end → end ≤ most
    → end + prefix_len is_ascii_digit (drop end bytes) ≡ prefix_len is_ascii_digit bytes →
    prefix_len is_ascii_digit (drop end bytes) ≡ 0 → value ≡ value_of (take end bytes) → Some value ≡ front_value most bytes
digits_end_here most bytes end value some few run ended is =
    let here : end ≡ prefix_len is_ascii_digit bytes = omega (arith, run, ended) in
    let test : (nat_le 1 end && nat_le end most) ≡ true = and_from _ _ (le-leb _ _ some) (le-leb _ _ few) in
    ap Some is ∙ sym (cond-true _ _ None test)
    ∙ ap (λ n. cond (nat_le 1 n && nat_le n most) (Some (value_of (take n bytes))) None) here
