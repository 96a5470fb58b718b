-- A begin, a look and a split leave the countdowns exact.
use Rattle.std.proofs.Common.{◌≡◌, ℕ, ◌+◌, ◌<◌, inl, inr, ⊎_elim, Bool, true, ◌||◌, eqb, eqb-true, [], ◌∷◌, refl, sym, ap, subst, ◌∙◌, arith}
use Rattle.std.proofs.lemmas.Bool.{cases_Bool}
use Rattle.merge_laws.specs.Numbers.{has}
use Rattle.merge_laws.specs.Claims.{Claims, total, owed_for, owes, duties_on, dues, has_segment_duty}
use Rattle.merge_laws.specs.Countdowns.{is_unended, unended_parts, unfinished, IsLed}
use Rattle.merge_laws.specs.CountLaws.{BeginsStayExact, LooksStayExact, SplitsStayExact}
use Rattle.merge_laws.proofs.Tests.{not_both, by_equal}
use Rattle.merge_laws.proofs.Sums.{total_same, total_longer}
use Rattle.merge_laws.proofs.Holding.{set_cases, longer_at, longer_cases, led_kept, from_old, rights_once_kept, rights_found, segment_duties_kept, same_duties, unblocked_kept, parts_same, unfinished_same}

pub begins_stay_exact : BeginsStayExact
begins_stay_exact h state rest wait state' claims C p B =
    let was = B.0 in
    let P = B.1 in
    let now = P.here in
    let L : IsLed h state claims = C.led in
    let same : (q : ℕ) → is_unended (state' q) ≡ is_unended (state q) = λ q. by_equal q p
    (λ e. ap (λ x. is_unended (state' x)) e ∙ (ap is_unended now ∙ sym (ap (λ x. is_unended (state x)) e ∙ ap is_unended was)))
    (λ n. ap is_unended (P.there q n)) in
    let closed_now : (q : ℕ) → state q ≡ 0 → state' q ≡ 0 = λ q z. P.there q (λ e. let o : state q ≡ 1 = ap state e ∙ was in omega arith) ∙ z in
    let closed_was : (q : ℕ) → state' q ≡ 0 → state q ≡ 0 = λ q z. sym (P.there q (λ e. let o : state' q ≡ 2 = ap state' e ∙ now in omega arith)) ∙ z in
    let ended_now : (q : ℕ) → state q ≡ 3 → state' q ≡ 3 = λ q z. P.there q (λ e. let o : state q ≡ 1 = ap state e ∙ was in omega arith) ∙ z in
    record {
      rest_is = λ j lt. C.rest_is j lt ∙ ap (λ m. m + total (owes j) claims) (sym (parts_same h state state' j (λ q l t. same q)));
      wait_is = λ j lt. C.wait_is j lt ∙ ap (λ m. m + total (dues j) claims) (sym (unfinished_same h state state' rest j (same (h.segment_at (h.starter j)))));
      rights_are = λ k q v e a. let r = C.rights_are k q v e a in (closed_now q r.0, r.1, r.2);
      rights_once = C.rights_once;
      rights_all = λ q j ql jl part z st. C.rights_all q j ql jl part z (closed_was q st);
      unblocked = λ q z. unblocked_kept h state state' rest p 2 P q (λ e. omega arith) (C.unblocked q (λ e. z (closed_now q e)));
      started = λ q j ql jl part z. C.started q j ql jl part (λ e. z (closed_now q e));
      seen = C.seen;
      led = record {
        place = L.place;
        first = L.first;
        there = L.there;
        is_first = L.is_first;
        only = L.only;
        below = λ i lt b. ended_now (h.segment_at i) (L.below i lt b);
        next_opened = λ lt o. by_equal (h.segment_at L.first.ended) p (λ e. inr (ap state' e ∙ now))
            (λ n. ⊎_elim (λ t. inl (P.there (h.segment_at L.first.ended) n ∙ t)) (λ t. inr (P.there (h.segment_at L.first.ended) n ∙ t)) (L.next_opened lt o));
        next_closed = λ lt o. closed_now (h.segment_at L.first.ended) (L.next_closed lt o);
        later = λ i lt b. closed_now (h.segment_at i) (L.later i lt b);
      };
      segment_duties = C.segment_duties;
    }

pub looks_stay_exact : LooksStayExact
looks_stay_exact h state rest wait claims C k j v w at W = record {
  rest_is = λ i lt. C.rest_is i lt ∙ ap (λ m. unended_parts h state i + m) (sym (total_same (owes i) claims k v w at (ap (owed_for i) W.owed)));
  wait_is = λ i lt. C.wait_is i lt ∙ ap (λ m. unfinished h state rest i + m) (sym (total_same (dues i) claims k v w at (ap (duties_on i) W.duties)));
  rights_are = λ i p u e a. let x = from_old h state rest wait claims C k v w at (λ (y : Claims). y.rights) W.rights i u e in
      C.rights_are i p x.0 x.1 (ap (has p) x.2 ∙ a);
  rights_once = rights_once_kept h state rest wait claims C k v w at W.rights;
  rights_all = λ p i pl il part z st. let r = C.rights_all p i pl il part z st in
      rights_found h state rest wait claims C k v w at (λ q a. ap (has q) W.rights ∙ a) p r.0 r.1 r.2 r.3;
  unblocked = C.unblocked;
  started = C.started;
  seen = λ i x u e a. ⊎_elim
      (λ t. let mine : has x (j ∷ v.seen) ≡ true = ap (has x) (sym W.seen) ∙ (ap (λ (y : Claims). has x y.seen) t.1 ∙ a) in ⊎_elim
      (λ q. let same : x ≡ j = eqb-true x j q in (subst (λ m. m < h.jobs) (sym same) W.job, ap rest same ∙ W.none))
      (λ f. C.seen k x v at (sym (ap (λ (b : Bool). b || has x v.seen) f) ∙ mine)) (cases_Bool (eqb x j)))
      (λ t. C.seen i x u t.1 a) (set_cases claims k i w u e);
  led = led_kept h state state claims k v w C.led at W.segments (λ i lt. refl);
  segment_duties = segment_duties_kept h state rest wait claims C k v w at W.segments (same_duties v w W.duties);
}

pub splits_stay_exact : SplitsStayExact
splits_stay_exact h state rest wait claims C u F =
    let L : IsLed h state claims = C.led in
    let N = F.nothing in
    let no_right : (p : ℕ) (v : Claims) → u ≡ v → has p v.rights ≡ true → ⊥ =
    λ p v t a. not_both a (ap (λ (x : Claims). has p x.rights) (sym t) ∙ ap (has p) N.rights) in
    record {
      rest_is = λ j lt. C.rest_is j lt ∙ ap (λ m. unended_parts h state j + m) (sym (total_longer (owes j) claims u (ap (owed_for j) N.owed)));
      wait_is = λ j lt. C.wait_is j lt ∙ ap (λ m. unfinished h state rest j + m) (sym (total_longer (dues j) claims u (ap (duties_on j) N.duties)));
      rights_are = λ k p v e a. ⊎_elim (λ t. C.rights_are k p v t a) (λ t. absurd (no_right p v t a)) (longer_cases claims u v k e);
      rights_once = λ i k p t v e f a b. ⊎_elim (λ x. ⊎_elim (λ y. C.rights_once i k p t v x y a b) (λ y. absurd (no_right p v y b))
          (longer_cases claims u v k f))
          (λ x. absurd (no_right p t x a)) (longer_cases claims u t i e);
      rights_all = λ p j pl jl part z st. let r = C.rights_all p j pl jl part z st in (r.0, r.1, longer_at claims (u ∷ []) r.0 r.1 r.2, r.3);
      unblocked = C.unblocked;
      started = C.started;
      seen = λ k j v e a. ⊎_elim (λ t. C.seen k j v t a) (λ t. absurd (not_both a (ap (λ (x : Claims). has j x.seen) (sym t) ∙ ap (has j) F.seen)))
          (longer_cases claims u v k e);
      led = record {
        place = L.place;
        first = L.first;
        there = longer_at claims (u ∷ []) L.place L.first L.there;
        is_first = L.is_first;
        only = λ k v e f. ⊎_elim (λ t. L.only k v t f) (λ t. absurd (F.number (ap (λ (x : Claims). x.number) t ∙ f.0))) (longer_cases claims u v k e);
        below = L.below;
        next_opened = L.next_opened;
        next_closed = L.next_closed;
        later = L.later;
      };
      segment_duties = λ k v e a. ⊎_elim (λ t. C.segment_duties k v t a) (λ t. absurd
          (not_both a (ap (λ (x : Claims). has_segment_duty x.duties) (sym t) ∙ ap has_segment_duty N.duties))) (longer_cases claims u v k e);
    }
