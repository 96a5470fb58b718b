-- The end of a piece leaves the countdowns exact.
use Rattle.std.proofs.Common.{◌≡◌, ◌≢◌, ℕ, suc, ◌+◌, ◌<◌, ⊎_elim, true, cond, not, ◌&&◌, eqb, eq-eqb, ne_eqb, List, sym, ap, subst, ◌∙◌, arith, Some}
use Rattle.std.specs.Prelude.{slice_get, slice_set}
use Rattle.merge_laws.specs.Numbers.{has, tally}
use Rattle.merge_laws.specs.Jobs.{JobGraph, IsJobGraph}
use Rattle.merge_laws.specs.Claims.{Claims, IsFirst, total, owed_for, owes, duties_on, dues}
use Rattle.merge_laws.specs.Countdowns.{closed_state, is_unended, unended_parts, unfinished, IsLed, AreExact}
use Rattle.merge_laws.specs.CountSteps.{EndsPart, EndsSegment}
use Rattle.merge_laws.specs.CountLaws.{PartEndsStayExact, SegmentEndsStayExact}
use Rattle.merge_laws.proofs.Tests.{not_both, either_side, by_equal, and_of, chosen, not_chosen}
use Rattle.merge_laws.proofs.Sums.{tally_less, total_set, total_same}
use Rattle.merge_laws.proofs.Holding.{set_cases, set_at, is_leader, led_kept, from_old, rights_once_kept, rights_found, seen_kept, segment_duties_kept, same_duties, unblocked_kept, parts_same, unfinished_same}

-- A JOB'S PIECE

module _ (h : JobGraph) (state rest wait state' : ℕ → ℕ) (claims : List Claims) (G : IsJobGraph h) (C : AreExact h state rest wait claims) (k p j : ℕ)
    (v w : Claims) (at : slice_get claims k ≡ Some v) (W : EndsPart h state state' v w p j) where
  part_end_closed : (q : ℕ) → state q ≡ closed_state → state' q ≡ closed_state
  part_end_closed q z = W.states.there q (λ e. let two : state q ≡ 2 = ap state e ∙ W.begun in omega arith) ∙ z

  part_end_was_closed : (q : ℕ) → state' q ≡ closed_state → state q ≡ closed_state
  part_end_was_closed q z = sym (W.states.there q (λ e. let three : state' q ≡ 3 = ap state' e ∙ W.states.here in omega arith)) ∙ z

  -- a segment is no job's piece
  part_end_segments : (i : ℕ) → i < h.segments → state' (h.segment_at i) ≡ state (h.segment_at i)
  part_end_segments i lt = W.states.there (h.segment_at i) (λ e. not_both (ap (λ x. h.is_part x j) e ∙ W.part) (G.no_job i j lt))

  -- one unended piece less, and one count owed
  part_end_rest : (i : ℕ) → i < h.jobs → rest i ≡ unended_parts h state' i + total (owes i) (slice_set claims k w)
  part_end_rest i lt =
      let c = C.rest_is i lt in
      let r = total_set (owes i) claims k v w at in
      let none : owes i v ≡ 0 = ap (owed_for i) W.was in
      let L : ℕ = unended_parts h state i in
      let M : ℕ = unended_parts h state' i in
      by_equal i j
      (λ q. let one : owes i w ≡ 1 = ap (owed_for i) W.now ∙ chosen j i 1 0 (sym q) in
      let part : h.is_part p i ≡ true = ap (h.is_part p) q ∙ W.part in
      let less : L ≡ suc M = tally_less (λ x. h.is_part x i && is_unended (state x)) (λ x. h.is_part x i && is_unended (state' x)) h.pieces p W.piece
      (and_of (h.is_part p i) (is_unended (state p)) part ∙ ap is_unended W.begun)
      (and_of (h.is_part p i) (is_unended (state' p)) part ∙ ap is_unended W.states.here)
      (λ x l n. ap (λ (m : ℕ). h.is_part x i && is_unended m) (sym (W.states.there x n))) in
      let was : rest i ≡ L + total (owes i) claims = c in
      let goal : rest i ≡ M + total (owes i) (slice_set claims k w) = omega arith in goal)
      (λ n. let same : M ≡ L = parts_same h state state' i (λ q l t. ap is_unended
      (W.states.there q (λ e. n (G.one_job q i j t (ap (λ x. h.is_part x j) e ∙ W.part))))) in
      let other : owes i w ≡ owes i v = ap (owed_for i) W.now ∙ (not_chosen j i 1 0 (λ q. n (sym q)) ∙ sym none) in
      c ∙ (ap (λ m. m + total (owes i) claims) (sym same) ∙ ap (λ m. M + m) (sym (total_same (owes i) claims k v w at other))))

  part_ended : AreExact h state' rest wait (slice_set claims k w)
  part_ended = record {
    rest_is = part_end_rest;
    wait_is = λ i lt. C.wait_is i lt ∙ (ap (λ m. m + total (dues i) claims)
        (sym (unfinished_same h state state' rest i (ap is_unended (part_end_segments (h.starter i) (G.starter_below i lt)))))
        ∙ ap (λ m. unfinished h state' rest i + m) (sym (total_same (dues i) claims k v w at (ap (duties_on i) W.duties))));
    rights_are = λ i q u e a. let x = from_old h state rest wait claims C k v w at (λ (y : Claims). y.rights) W.rights i u e in
        let r = C.rights_are i q x.0 x.1 (ap (has q) x.2 ∙ a) in (part_end_closed q r.0, r.1, r.2);
    rights_once = rights_once_kept h state rest wait claims C k v w at W.rights;
    rights_all = λ q i ql il part z st. let r = C.rights_all q i ql il part z (part_end_was_closed q st) in
        rights_found h state rest wait claims C k v w at (λ y a. ap (has y) W.rights ∙ a) q r.0 r.1 r.2 r.3;
    unblocked = λ q z. unblocked_kept h state state' rest p 3 W.states q (λ e. let b = W.begun in omega arith) (C.unblocked q (λ e. z (part_end_closed q e)));
    started = λ q i ql il part z. C.started q i ql il part (λ e. z (part_end_closed q e));
    seen = seen_kept h state rest wait claims C k v w at W.seen;
    led = led_kept h state state' claims k v w C.led at W.segments part_end_segments;
    segment_duties = segment_duties_kept h state rest wait claims C k v w at W.segments (same_duties v w W.duties);
  }

pub part_ends_stay_exact : PartEndsStayExact
part_ends_stay_exact h state rest wait state' claims G C k p j v w at W = part_ended h state rest wait state' claims G C k p j v w at W

-- A SEGMENT

module _ (h : JobGraph) (state rest wait state' : ℕ → ℕ) (claims : List Claims) (G : IsJobGraph h) (C : AreExact h state rest wait claims) (k i : ℕ)
    (v w : Claims) (at : slice_get claims k ≡ Some v) (W : EndsSegment h state state' v w i) where
  segment_end_leader : (k ≡ C.led.place) × (v ≡ C.led.first)
  segment_end_leader = is_leader h state claims k v C.led at W.first

  segment_end_count : C.led.first.ended ≡ v.ended
  segment_end_count = ap (λ (x : Claims). x.ended) (sym segment_end_leader.1)

  -- the segment that is begun is the next one
  segment_end_next : i ≡ v.ended
  segment_end_next = let L : IsLed h state claims = C.led in let two = W.begun in by_equal i v.ended (λ e. e) (λ n. absurd (⊎_elim
      (λ (lt : i < v.ended). let three = L.below i W.segment (subst (λ m. i < m) (sym segment_end_count) lt) in omega arith)
      (λ (gt : v.ended < i). let closed = L.later i W.segment (subst (λ m. m < i) (sym segment_end_count) gt) in omega arith) (either_side i v.ended n)))

  segment_end_closed : (q : ℕ) → state q ≡ closed_state → state' q ≡ closed_state
  segment_end_closed q z = W.states.there q (λ e. let two : state q ≡ 2 = ap state e ∙ W.begun in omega arith) ∙ z

  segment_end_was_closed : (q : ℕ) → state' q ≡ closed_state → state q ≡ closed_state
  segment_end_was_closed q z = sym (W.states.there q (λ e. let three : state' q ≡ 3 = ap state' e ∙ W.states.here in omega arith)) ∙ z

  segment_end_off : (x : ℕ) → x < h.segments → x ≢ i → state' (h.segment_at x) ≡ state (h.segment_at x)
  segment_end_off x lt n = W.states.there (h.segment_at x) (λ e. n (G.one_segment x i lt W.segment e))

  -- the jobs that it starts have an unfinished predecessor less, and a duty more
  segment_end_wait : (j : ℕ) → j < h.jobs → wait j ≡ unfinished h state' rest j + total (dues j) (slice_set claims k w)
  segment_end_wait j lt =
      let c = C.wait_is j lt in
      let r = total_set (dues j) claims k v w at in
      let T : ℕ = tally (λ x. h.is_dependency x j && not (eqb (rest x) 0)) h.jobs in
      by_equal (h.starter j) i
      (λ e. let more = W.duties.more j lt (eq-eqb (h.starter j) i e) in
      let O : ℕ = cond (is_unended (state (h.segment_at (h.starter j)))) 1 0 in
      let N : ℕ = cond (is_unended (state' (h.segment_at (h.starter j)))) 1 0 in
      let old : O ≡ 1 = ap (λ (m : ℕ). cond (is_unended (state (h.segment_at m))) 1 0) e ∙ ap (λ (m : ℕ). cond (is_unended m) 1 0) W.begun in
      let new : N ≡ 0 = ap (λ (m : ℕ). cond (is_unended (state' (h.segment_at m))) 1 0) e ∙ ap (λ (m : ℕ). cond (is_unended m) 1 0) W.states.here in
      let was : wait j ≡ (O + T) + total (dues j) claims = c in
      let goal : wait j ≡ (N + T) + total (dues j) (slice_set claims k w) = omega arith in goal)
      (λ n. c ∙ (ap (λ m. m + total (dues j) claims) (sym (unfinished_same h state state' rest j
      (ap is_unended (segment_end_off (h.starter j) (G.starter_below j lt) n))))
      ∙ ap (λ m. unfinished h state' rest j + m) (sym (total_same (dues j) claims k v w at (W.duties.same j lt (ne_eqb (h.starter j) i n))))))

  segment_end_first : IsFirst w
  segment_end_first = (W.number ∙ W.first.0, W.spent ∙ W.first.1)

  segment_end_led : IsLed h state' (slice_set claims k w)
  segment_end_led = let L : IsLed h state claims = C.led in let here = segment_end_next in let e = W.ended in record {
    place = k;
    first = w;
    there = set_at claims k v w at;
    is_first = segment_end_first;
    only = λ x u f y. ⊎_elim (λ t. t.0) (λ t. L.only x u t.1 y ∙ sym segment_end_leader.0) (set_cases claims k x w u f);
    below = λ x lt b. by_equal x i (λ q. ap (λ m. state' (h.segment_at m)) q ∙ W.states.here)
        (λ n. segment_end_off x lt n ∙ L.below x lt (let up : x < suc v.ended = subst (λ m. x < m) W.ended b in let ne : x ≢ v.ended = λ q. n (q ∙ sym here) in
        let low : x < v.ended = omega arith in subst (λ m. x < m) (sym segment_end_count) low));
    next_opened = λ lt o. absurd (not_both o W.opened);
    next_closed = λ lt o. let far : w.ended ≢ i = λ q. omega arith in let gt : v.ended < w.ended = omega arith in
        segment_end_off w.ended lt far ∙ L.later w.ended lt (subst (λ m. m < w.ended) (sym segment_end_count) gt);
    later = λ x lt b. let far : x ≢ i = λ q. omega arith in let gt : v.ended < x = omega arith in
        segment_end_off x lt far ∙ L.later x lt (subst (λ m. m < x) (sym segment_end_count) gt);
  }

  segment_ended : AreExact h state' rest wait (slice_set claims k w)
  segment_ended = record {
    rest_is = λ j lt. C.rest_is j lt ∙ (ap (λ m. m + total (owes j) claims)
        (sym (parts_same h state state' j (λ q l t. ap is_unended (W.states.there q (λ e. not_both t (ap (λ x. h.is_part x j) e ∙ G.no_job i j W.segment))))))
        ∙ ap (λ m. unended_parts h state' j + m) (sym (total_same (owes j) claims k v w at (ap (owed_for j) W.owed))));
    wait_is = segment_end_wait;
    rights_are = λ x q u e a. let y = from_old h state rest wait claims C k v w at (λ (z : Claims). z.rights) W.rights x u e in
        let r = C.rights_are x q y.0 y.1 (ap (has q) y.2 ∙ a) in (segment_end_closed q r.0, r.1, r.2);
    rights_once = rights_once_kept h state rest wait claims C k v w at W.rights;
    rights_all = λ q j ql jl part z st. let r = C.rights_all q j ql jl part z (segment_end_was_closed q st) in
        rights_found h state rest wait claims C k v w at (λ y a. ap (has y) W.rights ∙ a) q r.0 r.1 r.2 r.3;
    unblocked = λ q z. unblocked_kept h state state' rest (h.segment_at i) 3 W.states q (λ e. let b = W.begun in omega arith)
        (C.unblocked q (λ e. z (segment_end_closed q e)));
    started = λ q j ql jl part z. C.started q j ql jl part (λ e. z (segment_end_closed q e));
    seen = seen_kept h state rest wait claims C k v w at W.seen;
    led = segment_end_led;
    segment_duties = λ x u e a. ⊎_elim (λ t. subst (λ y. IsFirst y) t.1 segment_end_first) (λ t. C.segment_duties x u t.1 a) (set_cases claims k x w u e);
  }

pub segment_ends_stay_exact : SegmentEndsStayExact
segment_ends_stay_exact h state rest wait state' claims G C k i v w at W = segment_ended h state rest wait state' claims G C k i v w at W
