-- Walks round a circle of places.
use Rattle.std.proofs.Common.{◌≡◌, ℕ, zero, suc, ◌+◌, ◌-◌, ◌<◌, ◌≤◌, ◌≢◌, Bool, true, false, cond, Some, None, bit_and, refl, sym, ap, ◌∙◌, arith, inl, inr, ◌⊎◌}
use Rattle.std.proofs.lemmas.Bool.{cases_eq, cases_lt, true≢false}
use Rattle.std.proofs.lemmas.Nat.{and_le_r}
use Rattle.std.proofs.lemmas.Bool.Decides.{nat_tests}
use Rattle.native_map.specs.Table.{next_place, distance, probe}

pub distance_up : (t a b : ℕ) → a ≤ b → distance t a b ≡ b - a
distance_up t a b h = grind (arith, nat_tests)

pub distance_round : (t a b : ℕ) → b < a → distance t a b ≡ b + t - a
distance_round t a b h = grind (arith, nat_tests)

pub next_inside : (t p : ℕ) → p + 1 ≢ t → next_place t p ≡ p + 1
next_inside t p h = grind (arith, nat_tests)

pub next_round : (t p : ℕ) → p + 1 ≡ t → next_place t p ≡ 0
next_round t p h = grind (arith, nat_tests)

pub next_below : (t p : ℕ) → p < t → next_place t p < t
next_below t p h = grind (arith, nat_tests)

pub distance_is : (t a b : ℕ) → a < t → b < t → ((a ≤ b) × (distance t a b + a ≡ b)) ⊎ ((b < a) × (distance t a b + a ≡ b + t))
distance_is t a b ha hb = elim (cases_lt b a) [
  | inl lt ↦ inr (lt, omega (arith, distance_round t a b lt))
  | inr le ↦ inl
      (le, omega (arith, distance_up t a b le))
]

pub next_is : (t p : ℕ) → p < t → ((p + 1 < t) × (next_place t p ≡ p + 1)) ⊎ ((p + 1 ≡ t) × (next_place t p ≡ 0))
next_is t p h = elim (cases_eq (p + 1) t) [ inl e ↦ inr (e, next_round t p e) | inr ne ↦ inl (omega arith, next_inside t p ne) ]

pub distance_next : (t p q : ℕ) → p < t → q < t → p ≢ q → distance t p q ≡ distance t (next_place t p) q + 1
distance_next t p q hp hq ne = omega (arith, next_is t p hp, distance_is t p q hp hq, distance_is t (next_place t p) q (next_below t p hp) hq)

pub distance_none : (t p : ℕ) → distance t p p ≡ 0
distance_none t p = omega (arith, distance_up t p p)

pub distance_below : (t a b : ℕ) → a < t → b < t → distance t a b < t
distance_below t a b ha hb = omega (arith, distance_is t a b ha hb)

pub distance_same : (t a b : ℕ) → a < t → b < t → distance t a b ≡ 0 → a ≡ b
distance_same t a b ha hb e = omega (arith, distance_is t a b ha hb)

pub distance_some : (t a b : ℕ) → a < t → b < t → b ≢ a → 0 < distance t a b
distance_some t a b ha hb ne = omega (arith, distance_is t a b ha hb)

pub distance_apart : (t a b c : ℕ) → a < t → b < t → c < t → distance t a b ≡ distance t a c → b ≡ c
distance_apart t a b c ha hb hc e = omega (arith, distance_is t a b ha hb, distance_is t a c ha hc)

-- from a to c by reached of b
pub distance_by : (t a b c : ℕ) → a < t → b < t → c < t → distance t a b + distance t b c < t → distance t a c ≡ distance t a b + distance t b c
distance_by t a b c ha hb hc h = omega (arith, distance_is t a b ha hb, distance_is t b c hb hc, distance_is t a c ha hc)

-- b comes before c on the reached from a
pub distance_past : (t a b c : ℕ) → a < t → b < t → c < t → distance t a b ≤ distance t a c → distance t a c ≡ distance t a b + distance t b c
distance_past t a b c ha hb hc h = omega (arith, distance_is t a b ha hb, distance_is t b c hb hc, distance_is t a c ha hc)

module _ (stops : ℕ → Bool) (t : ℕ) where
  -- a probe that ended at q was stopped there, and by no place before it
  pub record Ends (p q : ℕ) : Type 0 where
    pub below : q < t
    pub stopped : stops q ≡ true
    pub before : (x : ℕ) → x < t → distance t p x < distance t p q → stops x ≡ false

  pub probe_ends : (n p q : ℕ) → p < t → probe stops t n p ≡ Some q → Ends p q
  probe_ends zero p q hp e = absurd (cc)
  probe_ends (suc n) p q hp e = elim (stops p) as (λ b. stops p ≡ b → cond b (Some p) (probe stops t n (next_place t p)) ≡ Some q → Ends p q) [
    | true ↦ λ s e. let same : p ≡ q = cc in record {
      below = rw (← same) hp;
      stopped = rw (← same) s;
      before = λ x hx lt. absurd (omega (arith, distance_none t p, ap (distance t p) same));
    }
    | false ↦ λ s e.
        let rest = probe_ends n (next_place t p) q (next_below t p hp) e in
        let here : p ≢ q = λ same. true≢false (sym rest.stopped ∙ ap stops (sym same) ∙ s) in
        record {
          below = rest.below;
          stopped = rest.stopped;
          before = λ x hx lt. elim (cases_eq p x) [
            | inl same ↦ rw (← same) s
            | inr ne ↦ rest.before x hx (omega (arith, distance_next t p x hp hx ne, distance_next t p q hp rest.below here, lt))
          ];
        }
  ] refl e

  -- and such a probe ends there
  pub probe_to : (n p q : ℕ) → p < t → distance t p q < n → Ends p q → probe stops t n p ≡ Some q
  probe_to zero p q hp lt is = absurd (omega arith)
  probe_to (suc n) p q hp lt is = elim (cases_eq p q) [
    | inl same ↦ ap (λ b. cond b (Some p) (probe stops t n (next_place t p))) (ap stops same ∙ is.stopped) ∙ ap Some same
    | inr ne ↦
        let q_below = is.below in
        let more = distance_next t p q hp is.below ne in
        ap (λ b. cond b (Some p) (probe stops t n (next_place t p))) (is.before p hp (omega (arith, distance_none t p)))
        ∙ probe_to n (next_place t p) q (next_below t p hp) (omega arith) (record {
          below = is.below;
          stopped = is.stopped;
          before = λ x hx less. is.before x hx (elim (cases_eq p x) [
            | inl same ↦ omega (arith, distance_none t p, ap (distance t p) same)
            | inr apart ↦ omega
                (arith, distance_next t p x hp hx apart)
          ]);
        })
  ]

  -- a probe that could have come to a place that stops it does end
  pub probe_some : (n p e : ℕ) → p < t → e < t → stops e ≡ true → distance t p e < n → probe stops t n p ≢ None
  probe_some zero p e hp he s lt none = absurd (omega arith)
  probe_some (suc n) p e hp he s lt none = elim (stops p) as (λ b. stops p ≡ b → cond b (Some p) (probe stops t n (next_place t p)) ≡ None → ⊥) [
    | true ↦ λ _ e. cc
    | false ↦ λ f rest. probe_some n (next_place t p) e (next_below t p hp) he s
        (let ne : p ≢ e = λ same. true≢false (sym s ∙ ap stops (sym same) ∙ f) in omega (arith, distance_next t p e hp he ne)) rest
  ] refl none

pub and_below : (t x : ℕ) → 0 < t → bit_and x (t - 1) < t
and_below t x h = omega (arith, and_le_r x (t - 1))
