-- How many places a table has.
use Rattle.std.proofs.Common.{◌≡◌, ◌≢◌, ℕ, zero, suc, ℤ, List, ◌+◌, ◌-◌, ◌*◌, ◌/◌, ◌%◌, ◌^◌, ◌<◌, ◌≤◌, cond, leb, max, refl, sym, ap, subst, ◌∙◌, arith, inl, inr}
use Rattle.std.proofs.lemmas.Bool.{cases_eq, cases_lt, leb-true, le-leb, lt-leb, cond_both}
use Rattle.std.proofs.lemmas.Nat.{pow_below}
use Rattle.frame_ast.specs.Contents.{Pairs, doubled, words_of}
use Rattle.native_map.specs.declared.MapAt.{MapAt}
use Rattle.native_map.specs.Places.{mask_of}
use Rattle.native_map.specs.Table.{places, end_of}

twice : (a : ℕ) → 2 * 2 ^ a ≡ 2 ^ suc a
twice a = omega arith

half : (a : ℕ) → 2 ^ suc a / 2 ≡ 2 ^ a
half a = omega (arith, twice a)

pow_up : (a b : ℕ) → a ≤ b → 2 ^ a ≤ 2 ^ b
pow_up a b h = elim (cases_eq a b) [ inl e ↦ omega (arith, ap (λ x. 2 ^ x) e) | inr ne ↦ omega (arith, pow_below a b (omega arith)) ]

-- b is the least power that is enough, and a is at most b
doubled_is : (turns a b n : ℕ) → a ≤ b → n ≤ 2 ^ b → (a < b → 2 ^ b / 2 < n) → b ≤ a + turns → doubled turns (2 ^ a) n ≡ 2 ^ b
doubled_is zero a b n le fits least far = ap (λ x. 2 ^ x) (omega arith)
doubled_is (suc turns) a b n le fits least far = elim (cases_lt (2 ^ a) n) [
  | inr enough ↦
      let same : a ≡ b = elim (cases_eq a b) [
        | inl e ↦ e
        | inr ne ↦ absurd (
            let c : b ≡ suc (b - 1) = omega arith in
            let h : 2 ^ b / 2 ≡ 2 ^ (b - 1) = ap (λ x. 2 ^ x / 2) c ∙ half (b - 1) in
            omega (arith, h, pow_up a (b - 1) (omega arith), least (omega arith)))
      ] in
      ap (λ x. cond x (2 ^ a) (doubled turns (2 * 2 ^ a) n)) (le-leb n (2 ^ a) enough) ∙ ap (λ x. 2 ^ x) same
  | inl more ↦
      let ne : a ≢ b = λ e. omega (arith, ap (λ x. 2 ^ x) e) in
      ap (λ x. cond x (2 ^ a) (doubled turns (2 * 2 ^ a) n)) (lt-leb n (2 ^ a) more)
      ∙ ap (λ x. doubled turns x n) (twice a)
      ∙ doubled_is turns (suc a) b n (omega arith) fits (λ lt. least (omega arith)) (omega arith)
]

-- what std's `next_power_of_two` gives is that number
least_power : (turns cap r : ℕ) → 40 ≤ turns → cap < 2 ^ 32 → (k : ℕ) × (r ≡ 2 ^ k) → max (2 * cap) 2 ≤ r → r / 2 < max 1 (max (2 * cap) 2)
    → r ≡ doubled turns 2 (2 * cap)
least_power turns cap r many small power enough least =
    let b = power.0 in
    let is : r ≡ 2 ^ b = power.1 in
    let one : 1 ≤ b = elim (cases_lt 0 b) [ inl h ↦ omega arith | inr h ↦ absurd (let z : b ≡ 0 = omega arith in omega (arith, is, ap (λ x. 2 ^ x) z)) ] in
    let c : b ≡ suc (b - 1) = omega arith in
    let h : 2 ^ b / 2 ≡ 2 ^ (b - 1) = ap (λ x. 2 ^ x / 2) c ∙ half (b - 1) in
    let low : 2 ≤ b → 2 ≤ 2 ^ (b - 1) = λ lt. omega (arith, pow_up 1 (b - 1) (omega arith)) in
    let far : b ≤ 40 = elim (cases_lt 40 b) [ inl over ↦ absurd (omega (arith, is, pow_up 40 b (omega arith))) | inr h ↦ h ] in
    is ∙ sym (doubled_is turns 1 b (2 * cap) one (omega (arith, is)) (λ lt. omega (arith, h, is, low lt)) (omega arith))

pub places_is : (cap r : ℕ) → cap < 2 ^ 32 → (k : ℕ) × (r ≡ 2 ^ k) → max (2 * cap) 2 ≤ r → r / 2 < max 1 (max (2 * cap) 2) → r ≡ places cap
unfolding places
places_is cap r small power enough least = least_power 64 cap r (omega arith) small power enough least

doubled_up : (turns u n : ℕ) → u ≤ doubled turns u n
doubled_up zero u n = omega arith
doubled_up (suc turns) u n = cond_both (leb n u) u (doubled turns (2 * u) n) (λ x. u ≤ x) (λ _. omega arith) (λ _. omega (arith, doubled_up turns (2 * u) n))

pub places_two : (cap : ℕ) → 2 ≤ places cap
unfolding places
places_two cap = doubled_up 64 2 (2 * cap)

-- where the doubling ended before its turns did, the power is enough
doubled_enough : (turns a n : ℕ) → doubled turns (2 ^ a) n < 2 ^ (a + turns) → n ≤ doubled turns (2 ^ a) n
doubled_enough zero a n h = let e : 2 ^ (a + 0) ≡ 2 ^ a = ap (λ x. 2 ^ x) (omega arith) in absurd (omega arith)
doubled_enough (suc turns) a n h =
    let e : suc a + turns ≡ a + suc turns = omega arith in
    cond_both (leb n (2 ^ a)) (2 ^ a) (doubled turns (2 * 2 ^ a) n) (λ x. x < 2 ^ (a + suc turns) → n ≤ x)
    (λ le h. leb-true n (2 ^ a) le)
    (λ _. subst (λ x. doubled turns x n < 2 ^ (a + suc turns) → n ≤ doubled turns x n) (sym (twice a))
    (subst (λ t. doubled turns (2 ^ suc a) n < 2 ^ t → n ≤ doubled turns (2 ^ suc a) n) e (doubled_enough turns (suc a) n)))
    h

below_power : (t x : ℕ) → 32 ≤ t → x < 2 ^ 32 → x < 2 ^ t
below_power t x h lt = omega (arith, pow_up 32 t h)

enough_places : (turns n : ℕ) → 32 ≤ turns → doubled turns 2 n < 2 ^ 32 → n ≤ doubled turns 2 n
enough_places turns n many fits = doubled_enough turns 1 n (below_power (1 + turns) (doubled turns 2 n) (omega arith) fits)

-- at most half of the places hold a pair
pub places_room : (cap : ℕ) → places cap < 2 ^ 32 → 2 * cap ≤ places cap
unfolding places
places_room cap fits = enough_places 64 (2 * cap) (omega arith) fits

pub map_room : (at : MapAt) → end_of at < 2 ^ 32 → 2 * at.cap ≤ places at.cap
map_room at fits = places_room at.cap (omega arith)

pub words_of-is : (cap : ℕ) (ps : List (ℤ × ℤ)) → 3 * places cap + 1 ≡ words_of (Pairs cap ps)
unfolding places
words_of-is cap ps = omega arith

-- ---- the number is a power of two

doubled_power : (turns a n : ℕ) → (k : ℕ) × (doubled turns (2 ^ a) n ≡ 2 ^ k)
doubled_power zero a n = (a, refl)
doubled_power (suc turns) a n = cond_both (leb n (2 ^ a)) (2 ^ a) (doubled turns (2 * 2 ^ a) n) (λ x. (k : ℕ) × (x ≡ 2 ^ k)) (λ _. (a, refl))
    (λ _. subst (λ x. (k : ℕ) × (doubled turns x n ≡ 2 ^ k)) (sym (twice a)) (doubled_power turns (suc a) n))

pub places_power : (cap : ℕ) → (k : ℕ) × (places cap ≡ 2 ^ k)
unfolding places
places_power cap = doubled_power 64 1 (2 * cap)

-- where it is below 2^32, a bind keeps all of it
pub places_kept : (cap m : ℕ) → m ≡ mask_of cap → places cap < 2 ^ 32 → m + 1 ≡ places cap
places_kept cap m e fits = omega (arith, e, places_two cap)
