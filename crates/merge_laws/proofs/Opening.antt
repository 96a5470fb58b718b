-- Opening a piece leaves the countdowns exact.
use Rattle.std.proofs.Common.{◌≡◌, ◌≢◌, ℕ, suc, ◌+◌, ◌<◌, inl, ⊎_elim, Bool, true, cond, not, ◌&&◌, eqb, eqb-true, List, sym, ap, subst, ◌∙◌, arith, Some}
use Rattle.std.specs.Prelude.{slice_get, slice_set}
use Rattle.std.proofs.lemmas.Bool.{cases_Bool, not-false}
use Rattle.merge_laws.specs.Numbers.{has, tally}
use Rattle.merge_laws.specs.Jobs.{JobGraph, IsJobGraph}
use Rattle.merge_laws.specs.Claims.{Claims, IsFirst, total, owed_for, owes, duties_on, dues}
use Rattle.merge_laws.specs.Countdowns.{closed_state, ended_state, is_unended, unended_parts, unfinished, IsUnblocked, IsLed, AreExact}
use Rattle.merge_laws.specs.CountSteps.{OpensPart, OpensSegment}
use Rattle.merge_laws.specs.CountLaws.{PartOpeningsStayExact, SegmentOpeningsStayExact}
use Rattle.merge_laws.proofs.Tests.{not_both, by_equal, and_of}
use Rattle.merge_laws.proofs.Sums.{tally_none, total_same}
use Rattle.merge_laws.proofs.Holding.{set_cases, set_at, set_off, one_at, is_leader, led_kept, from_old, rights_once_kept, rights_found, seen_kept, segment_duties_kept, same_duties, unblocked_kept, parts_same, unfinished_same}

-- where no piece of a job is unended and none is owed, each is ended
pub counted_ended : (h : JobGraph) (state rest wait : ℕ → ℕ) (claims : List Claims) → AreExact h state rest wait claims → (i p : ℕ) → i < h.jobs → p < h.pieces
    → h.is_part p i ≡ true → rest i ≡ 0 → state p ≡ ended_state
counted_ended h state rest wait claims C i p il pl part z =
    let L : ℕ = unended_parts h state i in
    let c : rest i ≡ L + total (owes i) claims = C.rest_is i il in
    let none : L ≡ 0 = omega arith in
    let f = tally_none (λ q. h.is_part q i && is_unended (state q)) h.pieces none p pl in
    eqb-true (state p) 3 (not-false (eqb (state p) 3) (sym (and_of (h.is_part p i) (is_unended (state p)) part) ∙ f))

-- where a job waits for nothing its predecessors are finished
pub all_finished : (h : JobGraph) (state rest wait : ℕ → ℕ) (claims : List Claims) → IsJobGraph h → AreExact h state rest wait claims → (j : ℕ) → j < h.jobs
    → wait j ≡ 0
    → (state (h.segment_at (h.starter j)) ≡ ended_state) × ((i : ℕ) → h.is_dependency i j ≡ true → rest i ≡ 0)
all_finished h state rest wait claims G C j lt z =
    let T : ℕ = tally (λ i. h.is_dependency i j && not (eqb (rest i) 0)) h.jobs in
    let S : ℕ = state (h.segment_at (h.starter j)) in
    let O : ℕ = cond (is_unended S) 1 0 in
    let c : wait j ≡ (O + T) + total (dues j) claims = C.wait_is j lt in
    let none : T ≡ 0 = omega arith in
    let ended : O ≡ 0 = omega arith in (
      ⊎_elim (λ t. let one : O ≡ 1 = ap (λ (b : Bool). cond b 1 0) t in absurd (omega arith)) (λ f. eqb-true S 3 (not-false (eqb S 3) f))
          (cases_Bool (is_unended S)),
      λ i d. let f = tally_none (λ x. h.is_dependency x j && not (eqb (rest x) 0)) h.jobs none i (G.dependency_below i j d) in
          eqb-true (rest i) 0 (not-false (eqb (rest i) 0) (sym (and_of (h.is_dependency i j) (not (eqb (rest i) 0)) d) ∙ f)),
    )

-- A JOB'S PIECE

module _ (h : JobGraph) (state rest wait state' : ℕ → ℕ) (claims : List Claims) (G : IsJobGraph h) (C : AreExact h state rest wait claims) (k p : ℕ)
    (v w : Claims) (at : slice_get claims k ≡ Some v) (W : OpensPart state state' v w p)
    (closed : state p ≡ closed_state) (j : ℕ) (jl : j < h.jobs) (part : h.is_part p j ≡ true) (z : wait j ≡ 0) where
  part_open_segments : (i : ℕ) → i < h.segments → state' (h.segment_at i) ≡ state (h.segment_at i)
  part_open_segments i lt = W.states.there (h.segment_at i) (λ e. not_both (ap (λ x. h.is_part x j) e ∙ part) (G.no_job i j lt))

  part_open_was_closed : (q : ℕ) → state' q ≡ closed_state → (q ≢ p) × (state q ≡ closed_state)
  part_open_was_closed q e = let n : q ≢ p = λ i. let x : state' q ≡ 1 = ap state' i ∙ W.states.here in omega arith in (n, sym (W.states.there q n) ∙ e)

  part_open_unended : (q : ℕ) → is_unended (state' q) ≡ is_unended (state q)
  part_open_unended q = by_equal q p
      (λ e. ap (λ x. is_unended (state' x)) e ∙ (ap is_unended W.states.here ∙ sym (ap (λ x. is_unended (state x)) e ∙ ap is_unended closed)))
      (λ n. ap is_unended (W.states.there q n))

  -- a right after the opening is one of before, to another piece
  part_open_rights : (i q : ℕ) (u : Claims) → slice_get (slice_set claims k w) i ≡ Some u → has q u.rights ≡ true
      → (q ≢ p) × ((x : Claims) × (slice_get claims i ≡ Some x) × (has q x.rights ≡ true))
  part_open_rights i q u e a = ⊎_elim
      (λ t. let mine : has q w.rights ≡ true = ap (λ (x : Claims). has q x.rights) t.1 ∙ a in
      let n : q ≢ p = λ y. not_both (ap (λ x. has x w.rights) (sym y) ∙ mine) W.gone in
      (n, (v, ap (slice_get claims) t.0 ∙ at, sym (W.stay q n) ∙ mine)))
      (λ t. ((λ y. t.0 (C.rights_once i k p u v t.1 at (ap (λ x. has x u.rights) (sym y) ∙ a) W.right)), (u, t.1, a))) (set_cases claims k i w u e)

  -- the piece is unblocked, since its job waits for nothing
  part_open_unblocked : (q : ℕ) → q ≡ p → IsUnblocked h state' rest q
  part_open_unblocked q e =
      let finished = all_finished h state rest wait claims G C j jl z in
      let same : (i : ℕ) → h.is_part q i ≡ true → i ≡ j = λ i y. G.one_job p i j (ap (λ x. h.is_part x i) (sym e) ∙ y) part in record {
        starter = λ i lt y. part_open_segments (h.starter i) (G.starter_below i lt) ∙ (ap (λ m. state (h.segment_at (h.starter m))) (same i y) ∙ finished.0);
        dependencies = λ x i lt y d. finished.1 x (ap (h.is_dependency x) (sym (same i y)) ∙ d);
        before = λ x lt f. absurd (not_both part (ap (λ m. h.is_part m j) (sym e ∙ f) ∙ G.no_job (suc x) j lt));
        waits = λ x i lt f. absurd (not_both part (ap (λ m. h.is_part m j) (sym e ∙ f) ∙ G.no_job i j lt));
      }

  part_opened : AreExact h state' rest wait (slice_set claims k w)
  part_opened = record {
    rest_is = λ i lt. C.rest_is i lt ∙ (ap (λ m. m + total (owes i) claims) (sym (parts_same h state state' i (λ q l t. part_open_unended q)))
        ∙ ap (λ m. unended_parts h state' i + m) (sym (total_same (owes i) claims k v w at (ap (owed_for i) W.owed))));
    wait_is = λ i lt. C.wait_is i lt ∙ (ap (λ m. m + total (dues i) claims)
        (sym (unfinished_same h state state' rest i (part_open_unended (h.segment_at (h.starter i)))))
        ∙ ap (λ m. unfinished h state' rest i + m) (sym (total_same (dues i) claims k v w at (ap (duties_on i) W.duties))));
    rights_are = λ i q u e a. let x = part_open_rights i q u e a in let r = C.rights_are i q x.1.0 x.1.1 x.1.2 in (W.states.there q x.0 ∙ r.0, r.1, r.2);
    rights_once = λ i l q t u e f a b. let x = part_open_rights i q t e a in let y = part_open_rights l q u f b in
        C.rights_once i l q x.1.0 y.1.0 x.1.1 y.1.1 x.1.2 y.1.2;
    rights_all = λ q i ql il pq y st. let o = part_open_was_closed q st in let r = C.rights_all q i ql il pq y o.1 in by_equal r.0 k
        (λ e. (k, w, set_at claims k v w at, W.stay q o.0 ∙ (ap (λ (x : Claims). has q x.rights) (one_at claims k r.0 r.1 v e at r.2) ∙ r.3)))
        (λ n. (r.0, r.1, set_off claims k r.0 w n ∙ r.2, r.3));
    unblocked = λ q y. by_equal q p (part_open_unblocked q)
        (λ n. unblocked_kept h state state' rest p 1 W.states q (λ e. omega arith) (C.unblocked q (λ e. y (W.states.there q n ∙ e))));
    started = λ q i ql il pq y. by_equal q p
        (λ e. ap wait (G.one_job p i j (ap (λ x. h.is_part x i) (sym e) ∙ pq) part) ∙ z)
        (λ n. C.started q i ql il pq (λ e. y (W.states.there q n ∙ e)));
    seen = seen_kept h state rest wait claims C k v w at W.seen;
    led = led_kept h state state' claims k v w C.led at W.segments part_open_segments;
    segment_duties = segment_duties_kept h state rest wait claims C k v w at W.segments (same_duties v w W.duties);
  }

pub part_openings_stay_exact : PartOpeningsStayExact
part_openings_stay_exact h state rest wait state' claims G C k p v w at W =
    let r = C.rights_are k p v at W.right in
    part_opened h state rest wait state' claims G C k p v w at W r.0 r.2.0 r.2.1 r.2.2 r.2.3

-- A SEGMENT

module _ (h : JobGraph) (state rest wait state' : ℕ → ℕ) (claims : List Claims) (G : IsJobGraph h) (C : AreExact h state rest wait claims) (k : ℕ)
    (v w : Claims) (at : slice_get claims k ≡ Some v) (W : OpensSegment h state state' v w) where
  segment_open_leader : (k ≡ C.led.place) × (v ≡ C.led.first)
  segment_open_leader = is_leader h state claims k v C.led at W.first

  segment_open_count : C.led.first.ended ≡ v.ended
  segment_open_count = ap (λ (x : Claims). x.ended) (sym segment_open_leader.1)

  pub segment_open_closed : state (h.segment_at v.ended) ≡ closed_state
  segment_open_closed = ap (λ m. state (h.segment_at m)) (sym segment_open_count)
      ∙ C.led.next_closed (subst (λ m. m < h.segments) (sym segment_open_count) W.segment)
      (ap (λ (x : Claims). x.opened) (sym segment_open_leader.1) ∙ W.unopened)

  segment_open_off : (x : ℕ) → x < h.segments → x ≢ v.ended → state' (h.segment_at x) ≡ state (h.segment_at x)
  segment_open_off x lt n = W.states.there (h.segment_at x) (λ e. n (G.one_segment x v.ended lt W.segment e))

  segment_open_no_job : (q j : ℕ) → q ≡ h.segment_at v.ended → h.is_part q j ≡ true → ⊥
  segment_open_no_job q j e part = not_both part (ap (λ x. h.is_part x j) e ∙ G.no_job v.ended j W.segment)

  segment_open_was_closed : (q : ℕ) → state' q ≡ closed_state → state q ≡ closed_state
  segment_open_was_closed q e = sym (W.states.there q (λ x. let y : state' q ≡ 1 = ap state' x ∙ W.states.here in omega arith)) ∙ e

  segment_open_unended : (q : ℕ) → is_unended (state' q) ≡ is_unended (state q)
  segment_open_unended q = by_equal q (h.segment_at v.ended)
      (λ e. ap (λ x. is_unended (state' x)) e ∙ (ap is_unended W.states.here ∙ sym (ap (λ x. is_unended (state x)) e ∙ ap is_unended segment_open_closed)))
      (λ n. ap is_unended (W.states.there q n))

  -- the segment before is ended, and the jobs that it waits for were seen finished
  segment_open_unblocked : (q : ℕ) → q ≡ h.segment_at v.ended → IsUnblocked h state' rest q
  segment_open_unblocked q e = record {
    starter = λ j lt part. absurd (segment_open_no_job q j e part);
    dependencies = λ x j lt part. absurd (segment_open_no_job q j e part);
    before = λ x lt f. let same : suc x ≡ v.ended = G.one_segment (suc x) v.ended lt W.segment (sym f ∙ e) in let ne : x ≢ v.ended = λ y. omega arith in
        let low : x < v.ended = omega arith in
        segment_open_off x (omega arith) ne ∙ C.led.below x (omega arith) (subst (λ m. x < m) (sym segment_open_count) low);
    waits = λ x j lt f t. let same : j ≡ v.ended = G.one_segment j v.ended lt W.segment (sym f ∙ e) in
        (C.seen k x v at (W.waited x (ap (λ m. h.waits m x) (sym same) ∙ t))).1;
  }

  segment_open_first : IsFirst w
  segment_open_first = (W.number ∙ W.first.0, W.spent ∙ W.first.1)

  segment_open_led : IsLed h state' (slice_set claims k w)
  segment_open_led = let L : IsLed h state claims = C.led in let e = W.ended in record {
    place = k;
    first = w;
    there = set_at claims k v w at;
    is_first = segment_open_first;
    only = λ x u f y. ⊎_elim (λ t. t.0) (λ t. L.only x u t.1 y ∙ sym segment_open_leader.0) (set_cases claims k x w u f);
    below = λ x lt b. let n : x ≢ v.ended = λ q. omega arith in let low : x < v.ended = omega arith in
        segment_open_off x lt n ∙ L.below x lt (subst (λ m. x < m) (sym segment_open_count) low);
    next_opened = λ lt o. inl (ap (λ m. state' (h.segment_at m)) W.ended ∙ W.states.here);
    next_closed = λ lt o. absurd (not_both W.opened o);
    later = λ x lt b. let n : x ≢ v.ended = λ q. omega arith in let gt : v.ended < x = omega arith in
        segment_open_off x lt n ∙ L.later x lt (subst (λ m. m < x) (sym segment_open_count) gt);
  }

  segment_opened : AreExact h state' rest wait (slice_set claims k w)
  segment_opened = record {
    rest_is = λ j lt. C.rest_is j lt ∙ (ap (λ m. m + total (owes j) claims) (sym (parts_same h state state' j (λ q l t. segment_open_unended q)))
        ∙ ap (λ m. unended_parts h state' j + m) (sym (total_same (owes j) claims k v w at (ap (owed_for j) W.owed))));
    wait_is = λ j lt. C.wait_is j lt ∙ (ap (λ m. m + total (dues j) claims)
        (sym (unfinished_same h state state' rest j (segment_open_unended (h.segment_at (h.starter j)))))
        ∙ ap (λ m. unfinished h state' rest j + m) (sym (total_same (dues j) claims k v w at (ap (duties_on j) W.duties))));
    rights_are = λ x q u e a. let y = from_old h state rest wait claims C k v w at (λ (z : Claims). z.rights) W.rights x u e in
        let r = C.rights_are x q y.0 y.1 (ap (has q) y.2 ∙ a) in
        (W.states.there q (λ f. segment_open_no_job q r.2.0 f r.2.2) ∙ r.0, r.1, r.2);
    rights_once = rights_once_kept h state rest wait claims C k v w at W.rights;
    rights_all = λ q j ql jl part z st. let r = C.rights_all q j ql jl part z (segment_open_was_closed q st) in
        rights_found h state rest wait claims C k v w at (λ y a. ap (has y) W.rights ∙ a) q r.0 r.1 r.2 r.3;
    unblocked = λ q y. by_equal q (h.segment_at v.ended) (segment_open_unblocked q)
        (λ n. unblocked_kept h state state' rest (h.segment_at v.ended) 1 W.states q (λ e. let c = segment_open_closed in omega arith)
        (C.unblocked q (λ e. y (W.states.there q n ∙ e))));
    started = λ q j ql jl part y. C.started q j ql jl part (λ e. y (W.states.there q (λ f. segment_open_no_job q j f part) ∙ e));
    seen = seen_kept h state rest wait claims C k v w at W.seen;
    led = segment_open_led;
    segment_duties = λ x u e a. ⊎_elim (λ t. subst (λ y. IsFirst y) t.1 segment_open_first) (λ t. C.segment_duties x u t.1 a) (set_cases claims k x w u e);
  }

pub segment_openings_stay_exact : SegmentOpeningsStayExact
segment_openings_stay_exact h state rest wait state' claims G C k v w at W = segment_opened h state rest wait state' claims G C k v w at W
