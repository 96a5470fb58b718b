-- Two participants become one, and the countdowns stay exact.
use Rattle.std.proofs.Common.{◌≡◌, ◌≢◌, ℕ, ◌+◌, ◌<◌, ◌⊎◌, inl, inr, ⊎_elim, true, List, refl, sym, ap, subst, ◌∙◌, arith, Some}
use Rattle.std.specs.Prelude.{slice_get, slice_set}
use Rattle.std.proofs.lemmas.Bool.{or_left, or_right, or_cases}
use Rattle.merge_laws.specs.Numbers.{has}
use Rattle.merge_laws.specs.Jobs.{JobGraph}
use Rattle.merge_laws.specs.Claims.{Claims, IsFirst, total, owed_for, owes, duties_on, dues, has_segment_duty}
use Rattle.merge_laws.specs.Countdowns.{unended_parts, unfinished, IsLed, AreExact}
use Rattle.merge_laws.specs.CountSteps.{Joins}
use Rattle.merge_laws.specs.CountLaws.{JoinsStayExact}
use Rattle.merge_laws.proofs.Tests.{not_both, by_equal}
use Rattle.merge_laws.proofs.Sums.{total_set}
use Rattle.merge_laws.proofs.Holding.{set_cases, set_at, set_off, one_at}

module _ (claims : List Claims) (i k : ℕ) (u v w x : Claims) (apart : i ≢ k) (at_i : slice_get claims i ≡ Some u) (at_k : slice_get claims k ≡ Some v) where
  abbrev joined : List Claims
  joined = slice_set (slice_set claims i w) k x

  pub joined_cases : (j : ℕ) (t : Claims) → slice_get joined j ≡ Some t → ((j ≡ k) × (x ≡ t))
      ⊎ (((j ≡ i) × (w ≡ t)) ⊎ ((j ≢ i) × (j ≢ k) × (slice_get claims j ≡ Some t)))
  joined_cases j t e = ⊎_elim (λ y. inl y) (λ y. ⊎_elim (λ z. inr (inl z)) (λ z. inr (inr (z.0, y.0, z.1))) (set_cases claims i j w t y.1))
      (set_cases (slice_set claims i w) k j x t e)

  k_after_i : slice_get (slice_set claims i w) k ≡ Some v
  k_after_i = set_off claims i k w (λ q. apart (sym q)) ∙ at_k

  pub joined_i : slice_get joined i ≡ Some w
  joined_i = set_off (slice_set claims i w) k i x apart ∙ set_at claims i u w at_i

  pub joined_off : (j : ℕ) → j ≢ i → j ≢ k → slice_get joined j ≡ slice_get claims j
  joined_off j n m = set_off (slice_set claims i w) k j x m ∙ set_off claims i j w n

  -- a sum stays where the remaining one has both parts
  joined_total : (f : Claims → ℕ) → f w ≡ f u + f v → f x ≡ 0 → total f joined ≡ total f claims
  joined_total f both none = let a = total_set f claims i u w at_i in let b = total_set f (slice_set claims i w) k v x k_after_i in omega arith

  -- whom what is at a place after the join comes from
  pub place_after : (j : ℕ) (t : Claims) → slice_get claims j ≡ Some t → ((j ≡ i) × (u ≡ t)) ⊎ (((j ≡ k) × (v ≡ t)) ⊎ ((j ≢ i) × (j ≢ k)))
  place_after j t e = by_equal j i (λ q. inl (q, one_at claims i j t u q at_i e))
      (λ n. by_equal j k (λ q. inr (inl (q, one_at claims k j t v q at_k e))) (λ m. inr (inr (n, m))))

module _ (h : JobGraph) (state rest wait : ℕ → ℕ) (claims : List Claims) (C : AreExact h state rest wait claims) (i k : ℕ) (u v w x : Claims) (apart : i ≢ k)
    (at_i : slice_get claims i ≡ Some u) (at_k : slice_get claims k ≡ Some v) (J : Joins u v w x) where
  no_right : (p : ℕ) (t : Claims) → x ≡ t → has p t.rights ≡ true → ⊥
  no_right p t q a = let N = J.left in not_both (ap (λ (y : Claims). has p y.rights) q ∙ a) (ap (has p) N.rights)

  -- a right after the join: the remaining one's comes from one of both
  right_from : (j p : ℕ) (t : Claims) → slice_get (slice_set (slice_set claims i w) k x) j ≡ Some t → has p t.rights ≡ true
      → (a : ℕ) × (y : Claims) × (slice_get claims a ≡ Some y) × (has p y.rights ≡ true) × (((j ≡ i) × ((a ≡ i) ⊎ (a ≡ k))) ⊎ ((j ≢ i) × (j ≢ k) × (a ≡ j)))
  right_from j p t e a = ⊎_elim
      (λ y. absurd (no_right p t y.1 a))
      (λ y. ⊎_elim
      (λ z. ⊎_elim (λ b. (i, u, at_i, b, inl (z.0, inl refl))) (λ b. (k, v, at_k, b, inl (z.0, inr refl)))
      (or_cases (has p u.rights) (has p v.rights) (sym (J.rights p) ∙ (ap (λ (s : Claims). has p s.rights) z.1 ∙ a))))
      (λ z. (j, t, z.2, a, inr (z.0, z.1, refl))) y)
      (joined_cases claims i k u v w x apart at_i at_k j t e)

  rights_once' : (j l p : ℕ) (s t : Claims) → slice_get (slice_set (slice_set claims i w) k x) j ≡ Some s
      → slice_get (slice_set (slice_set claims i w) k x) l ≡ Some t → has p s.rights ≡ true → has p t.rights ≡ true → j ≡ l
  rights_once' j l p s t e f a b =
      let y = right_from j p s e a in let z = right_from l p t f b in
      let same : y.0 ≡ z.0 = C.rights_once y.0 z.0 p y.1 z.1 y.2 z.2 y.3 z.3 in
      ⊎_elim
      (λ c. ⊎_elim (λ d. c.0 ∙ sym d.0) (λ d. absurd (⊎_elim (λ q. d.0 (sym d.2 ∙ (sym same ∙ q))) (λ q. d.1 (sym d.2 ∙ (sym same ∙ q))) c.1)) z.4)
      (λ c. ⊎_elim (λ d. absurd (⊎_elim (λ q. c.0 (sym c.2 ∙ (same ∙ q))) (λ q. c.1 (sym c.2 ∙ (same ∙ q))) d.1)) (λ d. sym c.2 ∙ (same ∙ d.2)) z.4) y.4

  -- who had a right, or the one that it was joined to, has it
  rights_found' : (p j : ℕ) (t : Claims) → slice_get claims j ≡ Some t → has p t.rights ≡ true
      → (a : ℕ) × (y : Claims) × (slice_get (slice_set (slice_set claims i w) k x) a ≡ Some y) × (has p y.rights ≡ true)
  rights_found' p j t e a = ⊎_elim
      (λ y. (
        i,
        w,
        joined_i claims i k u v w x apart at_i at_k,
        J.rights p
            ∙ or_left (has p u.rights) (has p v.rights) (ap (λ (s : Claims). has p s.rights) y.1 ∙ a),
      ))
      (λ y. ⊎_elim
      (λ z. (
        i,
        w,
        joined_i claims i k u v w x apart at_i at_k,
        J.rights p
            ∙ or_right (has p u.rights) (has p v.rights) (ap (λ (s : Claims). has p s.rights) z.1 ∙ a),
      ))
      (λ z. (j, t, joined_off claims i k u v w x apart at_i at_k j z.0 z.1 ∙ e, a)) y)
      (place_after claims i k u v w x apart at_i at_k j t e)

  spent_first : IsFirst x → ⊥
  spent_first f = not_both J.spent f.1

  -- the remaining one is first where one of both was
  pub first_u : IsFirst u → IsFirst w
  first_u f = ((J.first_of_u f.0).0, J.unspent.2)

  pub first_v : IsFirst v → IsFirst w
  first_v f = ((J.first_of_v f.0).0, J.unspent.2)

  first_w : IsFirst w → IsFirst u ⊎ IsFirst v
  first_w f = ⊎_elim (λ z. inl (z, J.unspent.0)) (λ z. inr (z, J.unspent.1)) (J.first f.0)

  join_led : IsLed h state (slice_set (slice_set claims i w) k x)
  join_led = let L : IsLed h state claims = C.led in
      let whole : (place : ℕ) (first : Claims) → slice_get (slice_set (slice_set claims i w) k x) place ≡ Some first → IsFirst first
      → first.ended ≡ L.first.ended → first.opened ≡ L.first.opened
      → ((j : ℕ) (t : Claims) → slice_get (slice_set (slice_set claims i w) k x) j ≡ Some t → IsFirst t → j ≡ place)
      → IsLed h state (slice_set (slice_set claims i w) k x) = λ place first there f ended opened only. record {
        place = place;
        first = first;
        there = there;
        is_first = f;
        only = only;
        below = λ j lt b. L.below j lt (subst (λ n. j < n) ended b);
        next_opened = λ lt o. let lt' : L.first.ended < h.segments = subst (λ n. n < h.segments) ended lt in
            ⊎_elim (λ t. inl (ap (λ n. state (h.segment_at n)) ended ∙ t)) (λ t. inr (ap (λ n. state (h.segment_at n)) ended ∙ t))
            (L.next_opened lt' (sym opened ∙ o));
        next_closed = λ lt o. let lt' : L.first.ended < h.segments = subst (λ n. n < h.segments) ended lt in
            ap (λ n. state (h.segment_at n)) ended ∙ L.next_closed lt' (sym opened ∙ o);
        later = λ j lt b. L.later j lt (subst (λ n. n < j) ended b);
      } in
      -- after the join only the place i can be first where one of both was, and no place but those of before else
      let at_i_only : (L.place ≡ i) ⊎ (L.place ≡ k) → (j : ℕ) (t : Claims) → slice_get (slice_set (slice_set claims i w) k x) j ≡ Some t → IsFirst t
      → j ≡ i = λ c j t e f. ⊎_elim
      (λ y. absurd (spent_first (subst (λ s. IsFirst s) (sym y.1) f)))
      (λ y. ⊎_elim (λ z. z.0) (λ z. absurd (let q = L.only j t z.2 f in ⊎_elim (λ r. z.0 (q ∙ r)) (λ r. z.1 (q ∙ r)) c)) y)
      (joined_cases claims i k u v w x apart at_i at_k j t e) in
      let there_i = joined_i claims i k u v w x apart at_i at_k in
      ⊎_elim
      (λ y. let f : IsFirst u = subst (λ s. IsFirst s) (sym y.1) L.is_first in let s = J.first_of_u f.0 in
      whole i w there_i (first_u f) (s.1 ∙ ap (λ (s : Claims). s.ended) y.1) (s.2 ∙ ap (λ (s : Claims). s.opened) y.1) (at_i_only (inl y.0)))
      (λ y. ⊎_elim
      (λ z. let f : IsFirst v = subst (λ s. IsFirst s) (sym z.1) L.is_first in let s = J.first_of_v f.0 in
      whole i w there_i (first_v f) (s.1 ∙ ap (λ (s : Claims). s.ended) z.1) (s.2 ∙ ap (λ (s : Claims). s.opened) z.1) (at_i_only (inr z.0)))
      (λ z. whole L.place L.first (joined_off claims i k u v w x apart at_i at_k L.place z.0 z.1 ∙ L.there) L.is_first refl refl
      (λ j t e f. ⊎_elim
      (λ a. absurd (spent_first (subst (λ s. IsFirst s) (sym a.1) f)))
      (λ a. ⊎_elim
      (λ b. absurd (⊎_elim (λ g. z.0 (sym (L.only i u at_i g))) (λ g. z.1 (sym (L.only k v at_k g))) (first_w (subst (λ s. IsFirst s) (sym b.1) f))))
      (λ b. L.only j t b.2 f) a)
      (joined_cases claims i k u v w x apart at_i at_k j t e))) y)
      (place_after claims i k u v w x apart at_i at_k L.place L.first L.there)

  join_exact : AreExact h state rest wait (slice_set (slice_set claims i w) k x)
  join_exact = let N = J.left in record {
    rest_is = λ j lt. C.rest_is j lt ∙ ap (λ m. unended_parts h state j + m) (sym (joined_total' (owes j) (J.owed j) (ap (owed_for j) N.owed)));
    wait_is = λ j lt. C.wait_is j lt ∙ ap (λ m. unfinished h state rest j + m) (sym (joined_total' (dues j) (J.duties j) (ap (duties_on j) N.duties)));
    rights_are = λ j p t e a. let y = right_from j p t e a in C.rights_are y.0 p y.1 y.2 y.3;
    rights_once = rights_once';
    rights_all = λ p j pl jl part z st. let r = C.rights_all p j pl jl part z st in rights_found' p r.0 r.1 r.2 r.3;
    unblocked = C.unblocked;
    started = C.started;
    seen = λ j a t e b. ⊎_elim
        (λ y. absurd (not_both (ap (λ (s : Claims). has a s.seen) y.1 ∙ b) (ap (has a) J.unseen)))
        (λ y. ⊎_elim
        (λ z. ⊎_elim (λ c. C.seen i a u at_i c) (λ c. C.seen k a v at_k c) (J.seen a (ap (λ (s : Claims). has a s.seen) z.1 ∙ b)))
        (λ z. C.seen j a t z.2 b) y)
        (joined_cases claims i k u v w x apart at_i at_k j t e);
    led = join_led;
    segment_duties = λ j t e a. ⊎_elim
        (λ y. absurd (not_both (ap (λ (s : Claims). has_segment_duty s.duties) y.1 ∙ a) (ap has_segment_duty N.duties)))
        (λ y. ⊎_elim
        (λ z. subst (λ s. IsFirst s) z.1 (⊎_elim (λ c. first_u (C.segment_duties i u at_i c)) (λ c. first_v (C.segment_duties k v at_k c))
        (J.segment_duties (ap (λ (s : Claims). has_segment_duty s.duties) z.1 ∙ a))))
        (λ z. C.segment_duties j t z.2 a) y)
        (joined_cases claims i k u v w x apart at_i at_k j t e);
  }
    where
      joined_total' : (f : Claims → ℕ) → f w ≡ f u + f v → f x ≡ 0 → total f (slice_set (slice_set claims i w) k x) ≡ total f claims
      joined_total' f both none = joined_total claims i k u v w x apart at_i at_k f both none

pub joins_stay_exact : JoinsStayExact
joins_stay_exact h state rest wait claims C i k u v w x apart at_i at_k J = join_exact h state rest wait claims C i k u v w x apart at_i at_k J
