-- What the bits of a word say of its jobs.
use Rattle.std.proofs.Common.{◌≡◌, ℕ, suc, ◌+◌, ◌-◌, ◌*◌, ◌/◌, ◌%◌, ◌^◌, ◌<◌, ◌≤◌, min, Bool, true, false, ◌&&◌, slice_index, bit_and, ⊎_elim, sym, ap, subst, ◌∙◌, arith}
use Rattle.std.specs.Prelude.{not, nat_eq, nat_lt}
use Rattle.std.specs.Int.{bit_at, w64}
use Rattle.std.specs.Int.Count.{count_leading_zeros}
use Rattle.std.proofs.lemmas.Bool.{cases_lt, and_from, and_parts, eq-eqb, eqb-true, ne_eqb, lt-ltb, not_from_false, not_from_true}
use Rattle.std.proofs.lemmas.Nat.{leading_top}
use Rattle.std.proofs.lemmas.Nat.Bits.{bit_at_and, bit_at_not, bit_at-lt, bit_at_above, bit_at_ones, bit_at_ones_above, bit_at_mask_below, bit_at_mask_inside, bit_at-zero}
use Rattle.std.proofs.Math.Nat.{div-add-mod, div-eq_of_lt-le}
use Rattle.frame_ast.specs.Jobs.{Jobs}
use Rattle.job_handle.specs.declared.handle.Handle.{Handle}
use Rattle.job_handle.specs.Sets.{bit_of, jobs_of, outside}
use Rattle.job_handle.proofs.Booleans.{not_both, same_test}

-- THE JOBS OF A WORD

job_bit : (h : Handle) (at i : ℕ) → at < 64 → i < 64 → jobs_of h (64 * at + i + 1) ≡ nat_eq (bit_at (slice_index h.words at) i) 1
job_bit h at i low less =
    let k : ℕ = 64 * at + i + 1 - 1 in
    let q : k / 64 ≡ at = div-eq_of_lt-le 64 {m = k} (omega arith) (omega arith) in
    let parts : 64 * (k / 64) + k % 64 ≡ k = div-add-mod k 64 in
    let r : k % 64 ≡ i = omega arith in
    ap (λ (g : Bool). g && bit_of h.words k)
    (and_from (nat_lt 0 (64 * at + i + 1)) (nat_lt (64 * at + i + 1) 4097) (lt-ltb 0 (64 * at + i + 1) (omega arith))
    (lt-ltb (64 * at + i + 1) 4097 (omega arith)))
    ∙ ap (λ x. nat_eq (bit_at (slice_index h.words x) (k % 64)) 1) q
    ∙ ap (λ x. nat_eq (bit_at (slice_index h.words at) x) 1) r

and_not : (x y : ℕ) → x < 2 → y < 2 → nat_eq (min x (1 - y)) 1 ≡ (nat_eq x 1 && not (nat_eq y 1))
and_not x y a b = same_test (nat_eq (min x (1 - y)) 1) (nat_eq x 1 && not (nat_eq y 1))
    (λ t. let e : min x (1 - y) ≡ 1 = eqb-true (min x (1 - y)) 1 t in
    and_from (nat_eq x 1) (not (nat_eq y 1)) (eq-eqb x 1 (omega arith)) (not_from_false (nat_eq y 1) (ne_eqb y 1 (λ q. absurd (omega arith)))))
    (λ t. let p = and_parts (nat_eq x 1) (not (nat_eq y 1)) t in
    let one : x ≡ 1 = eqb-true x 1 p.0 in
    ⊎_elim
    (λ lt. eq-eqb (min x (1 - y)) 1 (omega arith))
    (λ ge. absurd (not_both p.1 (not_from_true (nat_eq y 1) (eq-eqb y 1 (omega arith)))))
    (cases_lt y 1))

pub bits_without : (x y : ℕ) → y < 2 ^ 64 → (i : ℕ) → i < 64 → nat_eq (bit_at (bit_and x (2 ^ 64 - 1 - y)) i) 1
    ≡ (nat_eq (bit_at x i) 1 && not (nat_eq (bit_at y i) 1))
bits_without x y fits i less =
    ap (λ z. nat_eq z 1) (bit_at_and x (2 ^ 64 - 1 - y) i)
    ∙ ap (λ z. nat_eq (min (bit_at x i) z) 1) (bit_at_not w64 y i fits less)
    ∙ and_not (bit_at x i) (bit_at y i) (bit_at-lt x i) (bit_at-lt y i)

pub word_outside : (a b : Handle) (at bits : ℕ) → at < 64
    → ((i : ℕ) → i < 64 → nat_eq (bit_at bits i) 1 ≡ (nat_eq (bit_at (slice_index a.words at) i) 1 && not (nat_eq (bit_at (slice_index b.words at) i) 1)))
    → (i : ℕ) → i < 64 → nat_eq (bit_at bits i) 1 ≡ outside (jobs_of a) (jobs_of b) (64 * at + i + 1)
word_outside a b at bits low is i less =
    is i less
    ∙ sym (ap (λ z. z && not (jobs_of b (64 * at + i + 1))) (job_bit a at i low less)
    ∙ ap (λ z. nat_eq (bit_at (slice_index a.words at) i) 1 && not z) (job_bit b at i low less))

-- THE HIGHEST BIT

pub highest : (bits : ℕ) → 0 < bits → bits < 2 ^ 64
    → (63 - count_leading_zeros 64 bits < 64) × (bit_at bits (63 - count_leading_zeros 64 bits) ≡ 1)
    × ((i : ℕ) → 63 - count_leading_zeros 64 bits < i → bit_at bits i ≡ 0)
highest bits some fits =
    let top = leading_top 64 bits some fits in
    let here : 63 - count_leading_zeros 64 bits ≡ top.0 = let e = top.1 in omega arith in
    let one : bits / 2 ^ top.0 ≡ 1 = div-eq_of_lt-le (2 ^ top.0) {m = bits} (let e = top.2 in omega arith) (let e = top.3 in omega arith) in (
      omega arith,
      ap (λ i. bit_at bits i) here ∙ ap (λ n. n % 2) one,
      (λ i above. bit_at_above bits (suc top.0) i top.3 (omega arith)),
    )

-- UP TO A JOB, AND FROM A JOB ON

module _ (set : Jobs) (bits at : ℕ) (of : (i : ℕ) → i < 64 → nat_eq (bit_at bits i) 1 ≡ set (64 * at + i + 1)) where
  in_both : (mask i : ℕ) → i < 64 → bit_at (bit_and bits mask) i ≡ 1 → (set (64 * at + i + 1) ≡ true) × (bit_at mask i ≡ 1)
  in_both mask i less one =
      let a = bit_at-lt bits i in
      let b = bit_at-lt mask i in
      let least : min (bit_at bits i) (bit_at mask i) ≡ 1 = sym (bit_at_and bits mask i) ∙ one in
      (sym (of i less) ∙ eq-eqb (bit_at bits i) 1 (omega arith), omega arith)

  not_in : (mask i : ℕ) → i < 64 → bit_at (bit_and bits mask) i ≡ 0 → bit_at mask i ≡ 1 → set (64 * at + i + 1) ≡ false
  not_in mask i less none one =
      let least : min (bit_at bits i) (bit_at mask i) ≡ 0 = sym (bit_at_and bits mask i) ∙ none in
      sym (of i less) ∙ ne_eqb (bit_at bits i) 1 (λ e. absurd (omega arith))

  -- job k of the word, by its bit
  at_bit : (value : Bool) (k : ℕ) → 64 * at < k → k ≤ 64 * at + 64 → (P : (i : ℕ) → i < 64 → k ≡ 64 * at + i + 1 → set (64 * at + i + 1) ≡ value)
      → set k ≡ value
  at_bit value k low high P =
      let same : k ≡ 64 * at + (k - 64 * at - 1) + 1 = omega arith in
      subst (λ n. set n ≡ value) (sym same) (P (k - 64 * at - 1) (omega arith) same)

  pub none_at_all : bits ≡ 0 → (k : ℕ) → 64 * at < k → k ≤ 64 * at + 64 → set k ≡ false
  none_at_all z k low high = at_bit false k low high
      (λ i less same. sym (of i less) ∙ ne_eqb (bit_at bits i) 1
      (λ e. let n : bit_at bits i ≡ 0 = ap (λ x. bit_at x i) z ∙ bit_at-zero i in absurd (omega arith)))

  -- the jobs of the word up to its job r + 1
  module _ (r mask : ℕ) (less : r < 64) (m : mask ≡ 2 ^ (r + 1) - 1) where
    up_to : (i : ℕ) → i ≤ r → bit_at mask i ≡ 1
    up_to i le = ap (λ x. bit_at x i) m ∙ bit_at_ones (r + 1) i (omega arith)

    pub none_up_to : bit_and bits mask ≡ 0 → (k : ℕ) → 64 * at < k → k ≤ 64 * at + r + 1 → set k ≡ false
    none_up_to z k low high = at_bit false k low (omega arith)
        (λ i lt same. not_in mask i lt (ap (λ x. bit_at x i) z ∙ bit_at-zero i) (up_to i (omega arith)))

    pub last_up_to : (j : ℕ) → j < 64 → bit_at (bit_and bits mask) j ≡ 1 → ((i : ℕ) → j < i → bit_at (bit_and bits mask) i ≡ 0)
        → (j ≤ r) × (set (64 * at + j + 1) ≡ true) × ((k : ℕ) → 64 * at + j + 1 < k → k ≤ 64 * at + r + 1 → set k ≡ false)
    last_up_to j lt one none =
        let both = in_both mask j lt one in (
          ⊎_elim
              (λ above. let masked : bit_at mask j ≡ 0 = ap (λ x. bit_at x j) m ∙ bit_at_ones_above (r + 1) j (omega arith) in
              let e = both.1 in absurd (omega arith))
              (λ le. le)
              (cases_lt r j),
          both.0,
          (λ k low high. at_bit false k (omega arith) (omega arith) (λ i il same. not_in mask i il (none i (omega arith)) (up_to i (omega arith)))),
        )

  -- the jobs of the word after its first r
  module _ (r mask : ℕ) (less : r < 64) (m : mask ≡ 2 ^ 64 - 2 ^ r) where
    from_on : (i : ℕ) → r ≤ i → i < 64 → bit_at mask i ≡ 1
    from_on i le lt = ap (λ x. bit_at x i) m ∙ bit_at_mask_inside r 64 i le lt

    pub none_from : bit_and bits mask ≡ 0 → (k : ℕ) → 64 * at + r < k → k ≤ 64 * at + 64 → set k ≡ false
    none_from z k low high = at_bit false k (omega arith) high
        (λ i lt same. not_in mask i lt (ap (λ x. bit_at x i) z ∙ bit_at-zero i) (from_on i (omega arith) lt))

    pub next_from : (j : ℕ) → j < 64 → bit_at (bit_and bits mask) j ≡ 1 → ((i : ℕ) → i < j → bit_at (bit_and bits mask) i ≡ 0)
        → (r ≤ j) × (set (64 * at + j + 1) ≡ true) × ((k : ℕ) → 64 * at + r < k → k < 64 * at + j + 1 → set k ≡ false)
    next_from j lt one none =
        let both = in_both mask j lt one in (
          ⊎_elim
              (λ below. let masked : bit_at mask j ≡ 0 = ap (λ x. bit_at x j) m ∙ bit_at_mask_below r 64 j below in
              let e = both.1 in absurd (omega arith))
              (λ le. le)
              (cases_lt j r),
          both.0,
          (λ k low high. at_bit false k (omega arith) (omega arith) (λ i il same. not_in mask i il (none i (omega arith)) (from_on i (omega arith) il))),
        )
