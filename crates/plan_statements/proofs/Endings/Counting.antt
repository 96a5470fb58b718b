-- Live words are counted alike by slot and by container.
use Rattle.std.proofs.Common.{◌≡◌, ℕ, zero, suc, ◌+◌, ◌<◌, ◌≤◌, ◌⊎◌, inl, inr, ⊎_elim, Bool, true, false, eq-eqb, ne_eqb, ◌&&◌, not, List, [], ◌∷◌, refl, sym, ap, ◌∙◌, arith}
use Rattle.std.specs.List.{fold}
use Rattle.std.specs.Prelude.{nat_eq, sum_by, if◌then◌else◌}
use Rattle.std.proofs.lemmas.Bool.{cases_eq}
use Rattle.frame_ast.specs.Contents.{words_of}
use Rattle.frame_ast.specs.States.{ScriptState, is_live, live_below, live_words}
use Rattle.slot_store.specs.declared.place.Place.{Place}
use Rattle.slot_store.specs.Places.{in_use, place_at, live_len}
use Rattle.frame_core.proofs.Small.{not_both, either_bool}

-- Each slot in use has one live container, and each live container one slot, of its words.
pub record AreOwnedBy (places : List Place) (s : ScriptState) (slot : ℕ → ℕ) : Type 0 where
  pub used : (c : ℕ) → c < s.made → is_live s c ≡ true → in_use (place_at places (slot c)).state ≡ true
  pub len : (c : ℕ) → c < s.made → is_live s c ≡ true → (place_at places (slot c)).span.len ≡ words_of (s.contents c)
  pub once : (c d : ℕ) → c < s.made → d < s.made → is_live s c ≡ true → is_live s d ≡ true → slot c ≡ slot d → c ≡ d
  pub owned : (k : ℕ) → in_use (place_at places k).state ≡ true → (c : ℕ) × (c < s.made) × (is_live s c ≡ true) × (slot c ≡ k)

-- the live words of the slots of a set
abbrev sum_of : List Place → (ℕ → Bool) → ℕ
sum_of [] S = 0
sum_of (p ∷ more) S = (if S 0 then live_len p else 0) + sum_of more (λ k. S (suc k))

sum_fold : (ps : List Place) (n : ℕ) → fold (λ a x. a + live_len x) n ps ≡ n + sum_of ps (λ k. true)
sum_fold [] n = omega arith
sum_fold (p ∷ more) n = sum_fold more (n + live_len p) ∙ omega arith

sum_all : (ps : List Place) → sum_by live_len ps ≡ sum_of ps (λ k. true)
sum_all ps = sum_fold ps 0 ∙ omega arith

abbrev without : (ℕ → Bool) → ℕ → ℕ → Bool
without S k j = S j && not (nat_eq j k)

sum_same : (ps : List Place) (S T : ℕ → Bool) → ((k : ℕ) → S k ≡ T k) → sum_of ps S ≡ sum_of ps T
sum_same [] S T h = refl
sum_same (p ∷ more) S T h = λ i. (if h 0 i then live_len p else 0) + sum_same more (λ k. S (suc k)) (λ k. T (suc k)) (λ k. h (suc k)) i

and_true : (b : Bool) → (b && true) ≡ b
and_true true = refl
and_true false = refl

sum_less : (ps : List Place) (S : ℕ → Bool) (k : ℕ) → S k ≡ true → sum_of ps S ≡ sum_of ps (without S k) + live_len (place_at ps k)
sum_less [] S k h = refl
sum_less (p ∷ more) S zero h =
    let rest : sum_of more (λ k. S (suc k)) ≡ sum_of more (λ k. without S zero (suc k)) =
    sum_same more (λ k. S (suc k)) (λ k. without S zero (suc k)) (λ k. sym (and_true (S (suc k)))
    ∙ ap (λ b. S (suc k) && not b) (sym (ne_eqb (suc k) 0 (λ e. omega arith)))) in
    let gone : (if without S zero 0 then live_len p else 0) ≡ 0 = ap (λ b. if b && false then live_len p else 0) h in
    let all : (if S 0 then live_len p else 0) ≡ live_len p = ap (λ b. if b then live_len p else 0) h in
    omega arith
sum_less (p ∷ more) S (suc k) h =
    let r = sum_less more (λ j. S (suc j)) k h in
    let rest : sum_of more (without (λ j. S (suc j)) k) ≡ sum_of more (λ j. without S (suc k) (suc j)) =
    sum_same more (without (λ j. S (suc j)) k) (λ j. without S (suc k) (suc j)) (λ j. ap (λ b. S (suc j) && not b) (next j k)) in
    let head : (if without S (suc k) 0 then live_len p else 0) ≡ (if S 0 then live_len p else 0) =
    ap (λ b. if b then live_len p else 0) (ap (λ b. S 0 && not b) (ne_eqb 0 (suc k) (λ e. omega arith)) ∙ and_true (S 0)) in
    omega arith
  where
    next : (j k : ℕ) → nat_eq j k ≡ nat_eq (suc j) (suc k)
    next j k = ⊎_elim (λ e. eq-eqb j k e ∙ sym (eq-eqb (suc j) (suc k) (omega arith)))
        (λ ne. ne_eqb j k ne ∙ sym (ne_eqb (suc j) (suc k) (λ e. ne (omega arith)))) (cases_eq j k)

-- none of a set is in use
sum_none : (ps : List Place) (S : ℕ → Bool) → ((k : ℕ) → S k ≡ true → in_use (place_at ps k).state ≡ false) → sum_of ps S ≡ 0
sum_none [] S h = refl
sum_none (p ∷ more) S h =
    let rest = sum_none more (λ k. S (suc k)) (λ k e. h (suc k) e) in
    let head : (if S 0 then live_len p else 0) ≡ 0 = by (S 0) refl in
    omega arith
  where
    by : (b : Bool) → S 0 ≡ b → (if b then live_len p else 0) ≡ 0
    by true e = ap (λ u. if u then p.span.len else 0) (h 0 e)
    by false e = refl

and_both : (a b : Bool) → (a && b) ≡ true → (a ≡ true) × (b ≡ true)
and_both true b e = (refl, e)
and_both false b e = absurd (not_both e refl)

module _ (places : List Place) (s : ScriptState) (slot : ℕ → ℕ) (o : AreOwnedBy places s slot) where
  -- the slots of the live containers below n
  record AreOf (n : ℕ) (S : ℕ → Bool) : Type 0 where
    pub has : (c : ℕ) → c < n → is_live s c ≡ true → S (slot c) ≡ true
    pub owned : (k : ℕ) → S k ≡ true → in_use (place_at places k).state ≡ true → (c : ℕ) × (c < n) × (is_live s c ≡ true) × (slot c ≡ k)

  counted : (n : ℕ) (S : ℕ → Bool) → n ≤ s.made → AreOf n S → sum_of places S ≡ live_below s n
  counted zero S le a = sum_none places S (λ k h. ⊎_elim (λ u. let c = a.owned k h u in let lt = c.1 in absurd (omega arith)) (λ f. f)
      (either_bool (in_use (place_at places k).state)))
  counted (suc n) S le a = by (λ T b. counted n T (omega arith) b) (either_bool (is_live s n))
    where
      by : ((T : ℕ → Bool) → AreOf n T → sum_of places T ≡ live_below s n) → (is_live s n ≡ true) ⊎ (is_live s n ≡ false)
          → sum_of places S ≡ live_below s (suc n)
      by more (inl live) =
          let here = a.has n (omega arith) live in
          let T = without S (slot n) in
          let b : AreOf n T = record {
            has = λ c lt lc. (λ i. a.has c (omega arith) lc i && not (ne_eqb (slot c) (slot n)
                (λ e. let same = o.once c n (omega arith) (omega arith) lc live e in omega arith) i));
            owned = λ k h u.
                let p = and_both (S k) (not (nat_eq k (slot n))) h in
                let c = a.owned k p.0 u in (
                  c.0,
                  ⊎_elim (λ e. absurd (not_both (eq-eqb k (slot n) (sym c.3 ∙ ap slot e)) (flip p.1))) (λ ne. let lt = c.1 in omega arith) (cases_eq c.0 n),
                  c.2,
                  c.3,
                );
          } in
          let len : live_len (place_at places (slot n)) ≡ words_of (s.contents n) =
          ap (λ u. if u then (place_at places (slot n)).span.len else 0) (o.used n (omega arith) live) ∙ o.len n (omega arith) live in
          let rest = more T b in
          let less = sum_less places S (slot n) here in
          let end : (if is_live s n then words_of (s.contents n) else 0) ≡ words_of (s.contents n) = ap (λ u. if u then words_of (s.contents n) else 0) live in
          omega arith
        where
          flip : {b : Bool} → not b ≡ true → b ≡ false
          flip {b = b} e = turn b e
            where
              turn : (b : Bool) → not b ≡ true → b ≡ false
              turn true e = absurd (not_both refl (sym e))
              turn false e = refl
      by more (inr dead) =
          let b : AreOf n S = record {
            has = λ c lt lc. a.has c (omega arith) lc;
            owned = λ k h u. let c = a.owned k h u in (
              c.0,
              ⊎_elim (λ e. absurd (not_both c.2 (ap (is_live s) e ∙ dead))) (λ ne. let lt = c.1 in omega arith)
                  (cases_eq c.0 n),
              c.2,
              c.3,
            );
          } in
          let rest = more S b in
          let end : (if is_live s n then words_of (s.contents n) else 0) ≡ 0 = ap (λ u. if u then words_of (s.contents n) else 0) dead in
          omega arith

pub words_are_counted_alike : (places : List Place) (s : ScriptState) (slot : ℕ → ℕ) → AreOwnedBy places s slot → sum_by live_len places ≡ live_words s
words_are_counted_alike places s slot o = sum_all places ∙ counted places s slot o s.made (λ k. true) (omega arith)
    (record { has = λ c lt live. refl; owned = λ k h u. o.owned k u })
