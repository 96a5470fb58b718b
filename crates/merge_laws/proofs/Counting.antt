-- A count and a release leave the countdowns exact.
use Rattle.std.proofs.Common.{◌≡◌, ◌≢◌, ℕ, suc, ◌+◌, ◌<◌, ◌⊎◌, inl, inr, ⊎_elim, Bool, true, false, cond, not, ◌&&◌, eqb, eq-eqb, List, refl, sym, ap, subst, ◌∙◌, arith, Some}
use Rattle.std.specs.Prelude.{slice_get, slice_set}
use Rattle.std.proofs.lemmas.Bool.{cases_Bool}
use Rattle.merge_laws.specs.Numbers.{has, tally}
use Rattle.merge_laws.specs.Jobs.{JobGraph, IsJobGraph}
use Rattle.merge_laws.specs.Claims.{Claims, total, owed_for, owes, dues}
use Rattle.merge_laws.specs.Countdowns.{closed_state, is_unended, unended_parts, unfinished, AreExact}
use Rattle.merge_laws.specs.CountSteps.{Counts, Releases}
use Rattle.merge_laws.specs.CountLaws.{CountsStayExact, ReleasesStayExact}
use Rattle.merge_laws.proofs.Tests.{by_equal, and_of, and_none, same_and, not_zero, chosen, not_chosen}
use Rattle.merge_laws.proofs.Sums.{tally_same, tally_less, total_set, total_same}
use Rattle.merge_laws.proofs.Holding.{set_cases, set_at, led_kept, from_old, rights_once_kept, rights_found, seen_kept, segment_duties_kept}

-- COUNT

module _ (h : JobGraph) (state rest wait rest' : ℕ → ℕ) (claims : List Claims) (C : AreExact h state rest wait claims) (k j : ℕ) (v w : Claims)
    (at : slice_get claims k ≡ Some v) (W : Counts h rest rest' v w j) where
  -- what was 0 is 0
  count_past : (i : ℕ) → rest i ≡ 0 → rest' i ≡ 0
  count_past i z = W.rests.there i (λ q. let f : rest i ≡ suc W.remaining = ap rest q ∙ W.found in omega arith) ∙ z

  -- the job's `rest` and what is owed for it fall together
  count_rest : (i : ℕ) → i < h.jobs → rest' i ≡ unended_parts h state i + total (owes i) (slice_set claims k w)
  count_rest i lt =
      let c = C.rest_is i lt in
      let r = total_set (owes i) claims k v w at in
      let none : owes i w ≡ 0 = ap (owed_for i) W.now in
      by_equal i j
      (λ q. let one : owes i v ≡ 1 = ap (owed_for i) W.was ∙ chosen j i 1 0 (sym q) in
      let new : rest' i ≡ W.remaining = ap rest' q ∙ W.rests.here in
      let old : rest i ≡ suc W.remaining = ap rest q ∙ W.found in omega arith)
      (λ n. let other : owes i v ≡ 0 = ap (owed_for i) W.was ∙ not_chosen j i 1 0 (λ q. n (sym q)) in
      let same : rest' i ≡ rest i = W.rests.there i n in omega arith)

  abbrev is_left : ℕ → ℕ → Bool
  is_left i x = h.is_dependency x i && not (eqb (rest x) 0)

  abbrev is_left' : ℕ → ℕ → Bool
  is_left' i x = h.is_dependency x i && not (eqb (rest' x) 0)

  left_same : (i : ℕ) (x : ℕ) → x ≢ j → is_left i x ≡ is_left' i x
  left_same i x n = ap (λ (m : ℕ). h.is_dependency x i && not (eqb m 0)) (sym (W.rests.there x n))

  -- the last count of a dependency: one unfinished predecessor less
  left_less : W.remaining ≡ 0 → (i : ℕ) → h.is_dependency j i ≡ true → tally (is_left i) h.jobs ≡ suc (tally (is_left' i) h.jobs)
  left_less z i d = tally_less (is_left i) (is_left' i) h.jobs j W.job
      (and_of (h.is_dependency j i) (not (eqb (rest j) 0)) d ∙ not_zero (rest j) (λ e. let x = W.found in omega arith))
      (and_of (h.is_dependency j i) (not (eqb (rest' j) 0)) d ∙ ap not (eq-eqb (rest' j) 0 (W.rests.here ∙ z))) (λ x l n. left_same i x n)

  -- a job that isn't a dependency, or of which a piece is left to count
  left_even : (i : ℕ) → (h.is_dependency j i ≡ false) ⊎ (W.remaining ≢ 0) → tally (is_left i) h.jobs ≡ tally (is_left' i) h.jobs
  left_even i out = tally_same (is_left i) (is_left' i) h.jobs (λ x l. by_equal x j
      (λ q. ⊎_elim
      (λ d. let none : h.is_dependency x i ≡ false = ap (λ y. h.is_dependency y i) q ∙ d in
      and_none (h.is_dependency x i) (not (eqb (rest x) 0)) none ∙ sym (and_none (h.is_dependency x i) (not (eqb (rest' x) 0)) none))
      (λ n. same_and (h.is_dependency x i) (not_zero (rest x) (λ e. let y : rest x ≡ suc W.remaining = ap rest q ∙ W.found in omega arith)
      ∙ sym (not_zero (rest' x) (λ e. n (sym W.rests.here ∙ (ap rest' (sym q) ∙ e)))))) out)
      (left_same i x))

  -- `wait` stays: where the count was the last, a predecessor less is unfinished and a duty more is held
  count_wait : (i : ℕ) → i < h.jobs → wait i ≡ unfinished h state rest' i + total (dues i) (slice_set claims k w)
  count_wait i lt =
      let c = C.wait_is i lt in
      let start : ℕ = cond (is_unended (state (h.segment_at (h.starter i)))) 1 0 in
      let T : ℕ = tally (is_left i) h.jobs in
      let U : ℕ = tally (is_left' i) h.jobs in
      let old : wait i ≡ (start + T) + total (dues i) claims = c in
      let even : T ≡ U → dues i w ≡ dues i v → wait i ≡ (start + U) + total (dues i) (slice_set claims k w) = λ same d. let s =
      total_same (dues i) claims k v w at d in omega arith in
      by_equal W.remaining 0
      (λ z. ⊎_elim
      (λ d. let less : T ≡ suc U = left_less z i d in
      let more : dues i w ≡ suc (dues i v) = (W.last z).more i lt d in
      let r = total_set (dues i) claims k v w at in
      let goal : wait i ≡ (start + U) + total (dues i) (slice_set claims k w) = omega arith in goal)
      (λ d. even (left_even i (inl d)) ((W.last z).same i lt d)) (cases_Bool (h.is_dependency j i)))
      (λ n. even (left_even i (inr n)) (ap (λ ds. Rattle.merge_laws.specs.Claims.duties_on i ds) (W.not_last n)))

pub counts_stay_exact : CountsStayExact
counts_stay_exact h state rest wait rest' claims G C k j v w at W =
    let past : (i : ℕ) → rest i ≡ 0 → rest' i ≡ 0 = count_past h state rest wait rest' claims C k j v w at W in
    record {
      rest_is = count_rest h state rest wait rest' claims C k j v w at W;
      wait_is = count_wait h state rest wait rest' claims C k j v w at W;
      rights_are = λ i p u e a. let x = from_old h state rest wait claims C k v w at (λ (y : Claims). y.rights) W.rights i u e in
          C.rights_are i p x.0 x.1 (ap (has p) x.2 ∙ a);
      rights_once = rights_once_kept h state rest wait claims C k v w at W.rights;
      rights_all = λ p i pl il part z st. let r = C.rights_all p i pl il part z st in
          rights_found h state rest wait claims C k v w at (λ q a. ap (has q) W.rights ∙ a) p r.0 r.1 r.2 r.3;
      unblocked = λ p z. let r = C.unblocked p z in record {
        starter = r.starter;
        dependencies = λ i x lt part d. past i (r.dependencies i x lt part d);
        before = r.before;
        waits = λ i x lt q u. past i (r.waits i x lt q u);
      };
      started = C.started;
      seen = λ i x u e a. let s = seen_kept h state rest wait claims C k v w at W.seen i x u e a in (s.0, past x s.1);
      led = led_kept h state state claims k v w C.led at W.segments (λ i lt. refl);
      segment_duties = segment_duties_kept h state rest wait claims C k v w at W.segments W.segment_duties;
    }

-- RELEASE

module _ (h : JobGraph) (state rest wait wait' : ℕ → ℕ) (claims : List Claims) (G : IsJobGraph h) (C : AreExact h state rest wait claims) (k j : ℕ)
    (v w : Claims) (at : slice_get claims k ≡ Some v) (W : Releases h wait wait' v w j) where
  -- a job that waits for nothing isn't the one that is released
  release_other : (i : ℕ) → wait i ≡ 0 → i ≢ j
  release_other i z q = let f = W.found in let x : wait i ≡ suc W.remaining = ap wait q ∙ f in omega arith

  release_past : (i : ℕ) → wait i ≡ 0 → wait' i ≡ 0
  release_past i z = W.waits.there i (release_other i z) ∙ z

  -- before the release the job's pieces are closed, and nobody may open one
  release_closed : (p : ℕ) → p < h.pieces → h.is_part p j ≡ true → state p ≡ closed_state
  release_closed p lt part = by_equal (state p) 0 (λ z. z) (λ n. absurd (release_other j (C.started p j lt W.job part n) refl))

  release_nobody : (i p : ℕ) (u : Claims) → slice_get claims i ≡ Some u → has p u.rights ≡ true → h.is_part p j ≡ true → ⊥
  release_nobody i p u e a part = let r = (C.rights_are i p u e a).2 in release_other r.0 r.3 (G.one_job p r.0 j r.2 part)

  -- a right after the release is one of before, or the holder's, to a piece of the job
  release_rights : (i p : ℕ) (u : Claims) → slice_get (slice_set claims k w) i ≡ Some u → has p u.rights ≡ true
      → ((x : Claims) × (slice_get claims i ≡ Some x) × (has p x.rights ≡ true)) ⊎ ((i ≡ k) × (W.remaining ≡ 0) × (p < h.pieces) × (h.is_part p j ≡ true))
  release_rights i p u e a = ⊎_elim
      (λ t. let mine : has p w.rights ≡ true = ap (λ (x : Claims). has p x.rights) t.1 ∙ a in by_equal W.remaining 0
      (λ z. ⊎_elim (λ y. inl (v, ap (slice_get claims) t.0 ∙ at, y)) (λ y. inr (t.0, z, y.0, y.1)) (W.rights_only z p mine))
      (λ n. inl (v, ap (slice_get claims) t.0 ∙ at, sym (ap (has p) (W.not_last n)) ∙ mine)))
      (λ t. inl (u, t.1, a)) (set_cases claims k i w u e)

  -- the job's `wait` and the duties on it fall together
  release_wait : (i : ℕ) → i < h.jobs → wait' i ≡ unfinished h state rest i + total (dues i) (slice_set claims k w)
  release_wait i lt =
      let c = C.wait_is i lt in
      let r = total_set (dues i) claims k v w at in
      let U : ℕ = unfinished h state rest i in
      by_equal i j
      (λ q. let new : wait' i ≡ W.remaining = ap wait' q ∙ W.waits.here in
      let old : wait i ≡ suc W.remaining = ap wait q ∙ W.found in
      let gone : dues i v ≡ suc (dues i w) = subst (λ m. dues m v ≡ suc (dues m w)) (sym q) W.duty_gone in
      let was : wait i ≡ U + total (dues i) claims = c in
      let goal : wait' i ≡ U + total (dues i) (slice_set claims k w) = omega arith in goal)
      (λ n. W.waits.there i n ∙ (c ∙ ap (λ m. U + m) (sym (total_same (dues i) claims k v w at (W.duties_stay i n)))))

  released : AreExact h state rest wait' (slice_set claims k w)
  released = record {
    rest_is = λ i lt. C.rest_is i lt ∙ ap (λ m. unended_parts h state i + m) (sym (total_same (owes i) claims k v w at (ap (owed_for i) W.owed)));
    wait_is = release_wait;
    rights_are = λ i p u e a. ⊎_elim
        (λ x. let r = C.rights_are i p x.0 x.1 x.2 in (r.0, r.1, (r.2.0, r.2.1, r.2.2, release_past r.2.0 r.2.3)))
        (λ x. (release_closed p x.2 x.3, x.2, (j, W.job, x.3, W.waits.here ∙ x.1))) (release_rights i p u e a);
    rights_once = λ i l p t u e f a b. ⊎_elim
        (λ x. ⊎_elim (λ y. C.rights_once i l p x.0 y.0 x.1 y.1 x.2 y.2) (λ y. absurd (release_nobody i p x.0 x.1 x.2 y.3)) (release_rights l p u f b))
        (λ x. ⊎_elim (λ y. absurd (release_nobody l p y.0 y.1 y.2 x.3)) (λ y. x.0 ∙ sym y.0) (release_rights l p u f b)) (release_rights i p t e a);
    rights_all = λ p i pl il part z st. by_equal i j
        (λ q. (k, w, set_at claims k v w at, W.rights_come (sym W.waits.here ∙ (ap wait' (sym q) ∙ z)) p pl (subst (λ m. h.is_part p m ≡ true) q part)))
        (λ n. let r = C.rights_all p i pl il part (sym (W.waits.there i n) ∙ z) st in
        rights_found h state rest wait claims C k v w at W.rights_stay p r.0 r.1 r.2 r.3);
    unblocked = C.unblocked;
    started = λ p i pl il part z. release_past i (C.started p i pl il part z);
    seen = seen_kept h state rest wait claims C k v w at W.seen;
    led = led_kept h state state claims k v w C.led at W.segments (λ i lt. refl);
    segment_duties = segment_duties_kept h state rest wait claims C k v w at W.segments W.segment_duties;
  }

pub releases_stay_exact : ReleasesStayExact
releases_stay_exact h state rest wait wait' claims G C k j v w at W = released h state rest wait wait' claims G C k j v w at W
