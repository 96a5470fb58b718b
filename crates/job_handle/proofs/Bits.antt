-- Sets as bits.
use Rattle.std.proofs.Common.{◌≡◌, ℕ, ◌+◌, ◌-◌, ◌*◌, ◌/◌, ◌%◌, ◌^◌, ◌<◌, ◌≤◌, ⊎_elim, max, Bool, true, false, ◌&&◌, ◌||◌, ne_eqb, List, length, replicate, slice_index, bit_or, refl, sym, ap, subst, ◌∙◌, arith}
use Rattle.std.specs.Prelude.{not, nat_eq, nat_lt}
use Rattle.std.specs.Int.{bit_at}
use Rattle.std.specs.Int.Bits.{or_zero_r}
use Rattle.std.proofs.lemmas.Bool.{cases_eq, cases_lt, and_parts, and_from, and_left, and_right, eq-eqb, eqb-true, lt-ltb, ltb-true}
use Rattle.std.proofs.lemmas.List.{length-replicate, get_or-replicate, get_or-set_same, get_or-set_other}
use Rattle.std.proofs.lemmas.Nat.{one_shl}
use Rattle.std.proofs.lemmas.Nat.Bits.{bit_at_or, bit_at-lt, bit_at-zero, bit_at-pow_same, bit_at-pow_other}
use Rattle.std.proofs.Math.ListN.{set, get_or-eq_default}
use Rattle.std.proofs.Math.Nat.{div-add-mod, mod-lt}
use Rattle.frame_ast.specs.Jobs.{Jobs, nobody, only, both}
use Rattle.job_handle.specs.declared.handle.Handle.{Handle}
use Rattle.job_handle.specs.Sets.{bit_of, jobs_of, outside}
use Rattle.job_handle.specs.Extent.{AreWithin}
use Rattle.job_handle.proofs.Booleans.{not_both, same_test}

-- WORDS THAT ARE JOINED

or_bits : (x y : ℕ) → x < 2 → y < 2 → nat_eq (max x y) 1 ≡ (nat_eq x 1 || nat_eq y 1)
or_bits x y a b = ⊎_elim
    (λ p. eq-eqb (max x y) 1 (omega arith) ∙ sym (ap (λ (t : Bool). t || nat_eq y 1) (eq-eqb x 1 p)))
    (λ p. ⊎_elim
    (λ q. eq-eqb (max x y) 1 (omega arith) ∙ sym (ap (λ (t : Bool). t || nat_eq y 1) (ne_eqb x 1 p) ∙ eq-eqb y 1 q))
    (λ q. ne_eqb (max x y) 1 (λ e. absurd (omega arith)) ∙ sym (ap (λ (t : Bool). t || nat_eq y 1) (ne_eqb x 1 p) ∙ ne_eqb y 1 q))
    (cases_eq y 1))
    (cases_eq x 1)

bits_or : (a b r : List ℕ) (i : ℕ) → slice_index r (i / 64) ≡ bit_or (slice_index a (i / 64)) (slice_index b (i / 64)) → bit_of r i ≡ (bit_of a i || bit_of b i)
bits_or a b r i h =
    let x = slice_index a (i / 64) in
    let y = slice_index b (i / 64) in
    ap (λ w. nat_eq (bit_at w (i % 64)) 1) h
    ∙ ap (λ w. nat_eq w 1) (bit_at_or x y (i % 64))
    ∙ or_bits (bit_at x (i % 64)) (bit_at y (i % 64)) (bit_at-lt x (i % 64)) (bit_at-lt y (i % 64))

and_or : (g x y : Bool) → (g && (x || y)) ≡ ((g && x) || (g && y))
and_or true x y = refl
and_or false x y = refl

-- the set whose bits these are
abbrev jobs_in : List ℕ → Jobs
jobs_in words j = (nat_lt 0 j && nat_lt j 4097) && bit_of words (j - 1)

pub or_jobs : (a b r : List ℕ) → ((k : ℕ) → slice_index r k ≡ bit_or (slice_index a k) (slice_index b k))
    → jobs_in r ≡ both (jobs_in a) (jobs_in b)
or_jobs a b r h = λ i k. (one k) i
  where
    one : (k : ℕ) → jobs_in r k ≡ (jobs_in a k || jobs_in b k)
    one k =
        let known : Bool = nat_lt 0 k && nat_lt k 4097 in
        let x : Bool = bit_of a (k - 1) in
        let y : Bool = bit_of b (k - 1) in
        ap (λ z. known && z) (bits_or a b r (k - 1) (h ((k - 1) / 64))) ∙ and_or known x y

-- THE EMPTY SET, AND A SINGLE JOB

zeros_read : (n k : ℕ) → slice_index (replicate n 0) k ≡ 0
zeros_read n k = ⊎_elim
    (λ lt. get_or-replicate n k 0 0 lt)
    (λ ge. get_or-eq_default (replicate n 0) 0 (let l : length (replicate {A = ℕ} n 0) ≡ n = length-replicate {A = ℕ} n 0 in omega arith))
    (cases_lt k n)

zero_bit : (w i : ℕ) → w ≡ 0 → nat_eq (bit_at w i) 1 ≡ false
zero_bit w i e = ap (λ x. nat_eq (bit_at x i) 1) e ∙ ap (λ x. nat_eq x 1) (bit_at-zero i)

pub no_jobs_in : (words : List ℕ) → ((k : ℕ) → slice_index words k ≡ 0) → jobs_in words ≡ nobody
no_jobs_in words zero_words = λ i k. (none k) i
  where
    none : (k : ℕ) → jobs_in words k ≡ false
    none k = and_right (nat_lt 0 k && nat_lt k 4097) (bit_of words (k - 1))
        (zero_bit (slice_index words ((k - 1) / 64)) ((k - 1) % 64) (zero_words ((k - 1) / 64)))

pub empty_jobs : (n : ℕ) → jobs_in (replicate n 0) ≡ nobody
empty_jobs n = no_jobs_in (replicate n 0) (zeros_read n)

pub of_jobs : (n j : ℕ) (words : List ℕ) → 0 < j → j ≤ 4096 → (j - 1) / 64 < n → words ≡ set (replicate n 0) ((j - 1) / 64) (1 * 2 ^ ((j - 1) % 64) % 2 ^ 64)
    → jobs_in words ≡ only j
of_jobs n j words p le room e = λ i k. (same_test (jobs_in words k) (nat_eq k j) (λ t. to k t) (λ t. from k t)) i
  where
    mask : ℕ
    mask = 1 * 2 ^ ((j - 1) % 64) % 2 ^ 64

    word : slice_index words ((j - 1) / 64) ≡ 2 ^ ((j - 1) % 64)
    word =
        ap (λ ws. slice_index ws ((j - 1) / 64)) e
        ∙ get_or-set_same (replicate n 0) ((j - 1) / 64) mask 0 (let l : length (replicate {A = ℕ} n 0) ≡ n = length-replicate {A = ℕ} n 0 in omega arith)
        ∙ one_shl ((j - 1) % 64) 64 (mod-lt (j - 1) {m = 64} (omega arith))

    to : (k : ℕ) → jobs_in words k ≡ true → nat_eq k j ≡ true
    to k t =
        let parts = and_parts (nat_lt 0 k && nat_lt k 4097) (bit_of words (k - 1)) t in
        let low : 0 < k = ltb-true 0 k (and_parts (nat_lt 0 k) (nat_lt k 4097) parts.0).0 in
        ⊎_elim
        (λ q. let w : slice_index words ((k - 1) / 64) ≡ 2 ^ ((j - 1) % 64) = ap (λ x. slice_index words x) q ∙ word in
        ⊎_elim
        (λ r. let x = div-add-mod (k - 1) 64 in let y = div-add-mod (j - 1) 64 in
        let u : k - 1 ≡ j - 1 = sym x ∙ (ap (λ z. 64 * z + (k - 1) % 64) q ∙ (ap (λ z. 64 * ((j - 1) / 64) + z) r ∙ y)) in eq-eqb k j (omega arith))
        (λ ne. absurd (not_both parts.1 (ap (λ x. nat_eq (bit_at x ((k - 1) % 64)) 1) w
        ∙ ap (λ x. nat_eq x 1) (bit_at-pow_other ((j - 1) % 64) ((k - 1) % 64) ne))))
        (cases_eq ((k - 1) % 64) ((j - 1) % 64)))
        (λ ne. absurd (not_both parts.1 (zero_bit (slice_index words ((k - 1) / 64)) ((k - 1) % 64)
        (ap (λ ws. slice_index ws ((k - 1) / 64)) e ∙ get_or-set_other (replicate n 0) ((j - 1) / 64) ((k - 1) / 64) mask 0 ne ∙ zeros_read n ((k - 1) / 64)))))
        (cases_eq ((k - 1) / 64) ((j - 1) / 64))

    from : (k : ℕ) → nat_eq k j ≡ true → jobs_in words k ≡ true
    from k t = subst (λ x. jobs_in words x ≡ true) (sym (eqb-true k j t))
        (and_from (nat_lt 0 j && nat_lt j 4097) (bit_of words (j - 1)) (and_from (nat_lt 0 j) (nat_lt j 4097) (lt-ltb 0 j p) (lt-ltb j 4097 (omega arith)))
        (ap (λ x. nat_eq (bit_at x ((j - 1) % 64)) 1) word ∙ ap (λ x. nat_eq x 1) (bit_at-pow_same ((j - 1) % 64))))

-- WHERE THE WORDS WITH JOBS LIE

pub empty_within : (n : ℕ) → AreWithin (replicate n 0) 64 0
empty_within n = record { below = λ i lt. zeros_read n i; above = λ i le. zeros_read n i }

other_word : (words : List ℕ) (at i v : ℕ) → (i ≡ at → ⊥) → slice_index words i ≡ 0 → slice_index (set words at v) i ≡ 0
other_word words at i v ne z = get_or-set_other words at i v 0 ne ∙ z

pub one_within : (at v : ℕ) → AreWithin (set (replicate 64 0) at v) at (at + 1)
one_within at v = record {
  below = λ i lt. other_word (replicate 64 0) at i v (λ e. absurd (omega arith)) (zeros_read 64 i);
  above = λ i le. other_word (replicate 64 0) at i v (λ e. absurd (omega arith)) (zeros_read 64 i);
}

pub wider : (words : List ℕ) (low high first last : ℕ) → AreWithin words low high → first ≤ low → high ≤ last → AreWithin words first last
wider words low high first last W p q = record {
  below = λ i lt. W.below i (omega arith);
  above = λ i le. W.above i (omega arith);
}

pub set_within : (words : List ℕ) (low high at v : ℕ) → AreWithin words low high → low ≤ at → at < high → AreWithin (set words at v) low high
set_within words low high at v W p q = record {
  below = λ i lt. other_word words at i v (λ e. absurd (omega arith)) (W.below i lt);
  above = λ i le. other_word words at i v (λ e. absurd (omega arith)) (W.above i le);
}

pub or_nothing : (x y : ℕ) → y ≡ 0 → x ≡ bit_or x y
or_nothing x y z = sym (ap (λ n. bit_or x n) z ∙ or_zero_r x)

-- where the words of `b` from `last` on have no jobs, joining those before is enough
pub all_joined : (a b r : List ℕ) (i last : ℕ) → last ≤ i → ((k : ℕ) → last ≤ k → slice_index b k ≡ 0)
    → ((k : ℕ) → k < i → slice_index r k ≡ bit_or (slice_index a k) (slice_index b k)) → ((k : ℕ) → i ≤ k → slice_index r k ≡ slice_index a k)
    → (k : ℕ) → slice_index r k ≡ bit_or (slice_index a k) (slice_index b k)
all_joined a b r i last le none done rest k = ⊎_elim
    (λ lt. done k lt)
    (λ ge. rest k ge ∙ or_nothing (slice_index a k) (slice_index b k) (none k (omega arith)))
    (cases_lt k i)

none_in_word : (a b : Handle) (k : ℕ) → slice_index a.words ((k - 1) / 64) ≡ 0 → outside (jobs_of a) (jobs_of b) k ≡ false
none_in_word a b k z = and_left (jobs_of a k) (not (jobs_of b k))
    (and_right (nat_lt 0 k && nat_lt k 4097) (bit_of a.words (k - 1)) (zero_bit (slice_index a.words ((k - 1) / 64)) ((k - 1) % 64) z))

pub none_below : (a b : Handle) (k : ℕ) → 0 < k → k ≤ a.low * 64 → outside (jobs_of a) (jobs_of b) k ≡ false
none_below a b k some le = none_in_word a b k (a.within.below ((k - 1) / 64) (omega arith))

pub none_above : (a b : Handle) (k : ℕ) → a.high * 64 < k → outside (jobs_of a) (jobs_of b) k ≡ false
none_above a b k lt = none_in_word a b k (a.within.above ((k - 1) / 64) (omega arith))

-- one job more
pub inserted : (a r : List ℕ) (j mask : ℕ) → 0 < j → j ≤ 4096 → length a ≡ 64 → mask ≡ 1 * 2 ^ ((j - 1) % 64) % 2 ^ 64
    → r ≡ set a ((j - 1) / 64) (bit_or (slice_index a ((j - 1) / 64)) mask)
    → jobs_in r ≡ both (jobs_in a) (only j)
inserted a r j mask low high size m e =
    let at = (j - 1) / 64 in
    let within : at < 64 = omega arith in
    let one : List ℕ = set (replicate 64 0) at mask in
    let zeros : length (replicate {A = ℕ} 64 0) ≡ 64 = length-replicate {A = ℕ} 64 0 in
    or_jobs a one r (λ k. ap (λ ws. slice_index ws k) e ∙ ⊎_elim
    (λ q. subst (λ i. slice_index (set a at (bit_or (slice_index a at) mask)) i ≡ bit_or (slice_index a i) (slice_index one i)) (sym q)
    (get_or-set_same a at (bit_or (slice_index a at) mask) 0 (omega arith)
    ∙ ap (λ x. bit_or (slice_index a at) x) (sym (get_or-set_same (replicate 64 0) at mask 0 (omega arith)))))
    (λ ne. get_or-set_other a at k (bit_or (slice_index a at) mask) 0 ne
    ∙ sym (ap (λ x. bit_or (slice_index a k) x) (get_or-set_other (replicate 64 0) at k mask 0 ne ∙ zeros_read 64 k) ∙ or_zero_r (slice_index a k)))
    (cases_eq k at))
    ∙ ap (λ s. both (jobs_in a) s) (of_jobs 64 j one low high within (ap (λ x. set (replicate 64 0) at x) m))
