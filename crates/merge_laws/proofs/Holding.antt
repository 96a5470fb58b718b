-- One participant's claims change, and what follows for the clauses that a step doesn't touch.
use Rattle.std.proofs.Common.{◌≡◌, ◌≢◌, ℕ, zero, suc, ◌+◌, ◌<◌, ◌⊎◌, inl, inr, ⊎_elim, Bool, true, not, ◌&&◌, cond, eqb, List, [], ◌∷◌, ◌++◌, refl, sym, ap, subst, ◌∙◌, arith, Some}
use Rattle.std.specs.Prelude.{slice_get, slice_set}
use Rattle.std.proofs.lemmas.Bool.{cases_Bool}
use Rattle.merge_laws.specs.Numbers.{has, tally}
use Rattle.merge_laws.specs.Jobs.{JobGraph}
use Rattle.merge_laws.specs.Claims.{Claims, IsFirst, has_segment_duty}
use Rattle.merge_laws.specs.Countdowns.{ended_state, is_unended, unended_parts, unfinished, IsUnblocked, IsLed, AreExact}
use Rattle.merge_laws.specs.CountSteps.{ChangesWord, SameSegments}
use Rattle.merge_laws.proofs.Tests.{some_is, none_some, by_equal, same_and, and_none}
use Rattle.merge_laws.proofs.Sums.{tally_same}

-- LISTS

pub set_cases : (claims : List Claims) (k i : ℕ) (w u : Claims) → slice_get (slice_set claims k w) i ≡ Some u
    → ((i ≡ k) × (w ≡ u)) ⊎ ((i ≢ k) × (slice_get claims i ≡ Some u))
set_cases [] k i w u e = absurd (none_some e)
set_cases (x ∷ xs) zero zero w u e = inl (refl, some_is e)
set_cases (x ∷ xs) zero (suc i) w u e = inr ((λ q. omega arith), e)
set_cases (x ∷ xs) (suc k) zero w u e = inr ((λ q. omega arith), e)
set_cases (x ∷ xs) (suc k) (suc i) w u e = ⊎_elim (λ t. inl (ap suc t.0, t.1)) (λ t. inr ((λ q. t.0 (omega arith)), t.1)) (set_cases xs k i w u e)

pub set_at : (claims : List Claims) (k : ℕ) (v w : Claims) → slice_get claims k ≡ Some v → slice_get (slice_set claims k w) k ≡ Some w
set_at [] k v w e = absurd (none_some e)
set_at (x ∷ xs) zero v w e = refl
set_at (x ∷ xs) (suc k) v w e = set_at xs k v w e

pub set_off : (claims : List Claims) (k i : ℕ) (w : Claims) → i ≢ k → slice_get (slice_set claims k w) i ≡ slice_get claims i
set_off [] k i w n = refl
set_off (x ∷ xs) zero zero w n = absurd (n refl)
set_off (x ∷ xs) zero (suc i) w n = refl
set_off (x ∷ xs) (suc k) zero w n = refl
set_off (x ∷ xs) (suc k) (suc i) w n = set_off xs k i w (λ q. n (ap suc q))

pub one_at : (claims : List Claims) (k i : ℕ) (u v : Claims) → i ≡ k → slice_get claims k ≡ Some v → slice_get claims i ≡ Some u → v ≡ u
one_at claims k i u v q e f = some_is (sym e ∙ (ap (slice_get claims) (sym q) ∙ f))

pub longer_at : (claims more : List Claims) (i : ℕ) (u : Claims) → slice_get claims i ≡ Some u → slice_get (claims ++ more) i ≡ Some u
longer_at [] more i u e = absurd (none_some e)
longer_at (x ∷ xs) more zero u e = e
longer_at (x ∷ xs) more (suc i) u e = longer_at xs more i u e

pub longer_cases : (claims : List Claims) (w u : Claims) (i : ℕ) → slice_get (claims ++ w ∷ []) i ≡ Some u → (slice_get claims i ≡ Some u) ⊎ (w ≡ u)
longer_cases [] w u zero e = inr (some_is e)
longer_cases [] w u (suc i) e = absurd (none_some e)
longer_cases (x ∷ xs) w u zero e = inl e
longer_cases (x ∷ xs) w u (suc i) e = longer_cases xs w u i e

-- SEGMENTS

pub same_first : {v w : Claims} → SameSegments v w → IsFirst w → IsFirst v
same_first S f = (sym S.number ∙ f.0, sym S.spent ∙ f.1)

pub still_first : {v w : Claims} → SameSegments v w → IsFirst v → IsFirst w
still_first S f = (S.number ∙ f.0, S.spent ∙ f.1)

-- the claims of the first participant are those at its place
pub is_leader : (h : JobGraph) (state : ℕ → ℕ) (claims : List Claims) (k : ℕ) (v : Claims) → (L : IsLed h state claims) → slice_get claims k ≡ Some v
    → IsFirst v → (k ≡ L.place) × (v ≡ L.first)
is_leader h state claims k v L at f = let q = L.only k v at f in (q, sym (one_at claims L.place k v L.first q L.there at))

-- what is said of segments stays where their states stay
pub led_kept : (h : JobGraph) (state state' : ℕ → ℕ) (claims : List Claims) (k : ℕ) (v w : Claims) → IsLed h state claims → slice_get claims k ≡ Some v
    → SameSegments v w
    → ((i : ℕ) → i < h.segments → state' (h.segment_at i) ≡ state (h.segment_at i)) → IsLed h state' (slice_set claims k w)
led_kept h state state' claims k v w L at S same = by_equal L.place k
    (λ e. let fv : L.first ≡ v = sym (one_at claims k L.place L.first v e at L.there) in
    let ended : w.ended ≡ L.first.ended = S.ended ∙ ap (λ (x : Claims). x.ended) (sym fv) in
    let opened : w.opened ≡ L.first.opened = S.opened ∙ ap (λ (x : Claims). x.opened) (sym fv) in
    whole k w (set_at claims k v w at) (still_first S (subst (λ x. IsFirst x) fv L.is_first)) e ended opened)
    (λ n. whole L.place L.first (set_off claims k L.place w n ∙ L.there) L.is_first refl refl refl)
  where
    whole : (place : ℕ) (first : Claims) → slice_get (slice_set claims k w) place ≡ Some first → IsFirst first → L.place ≡ place → first.ended ≡ L.first.ended
        → first.opened ≡ L.first.opened → IsLed h state' (slice_set claims k w)
    whole place first here f q ended opened = record {
      place = place;
      first = first;
      there = here;
      is_first = f;
      only = λ i u e y. ⊎_elim
          (λ t. L.only i v (ap (slice_get claims) t.0 ∙ at) (same_first S (subst (λ x. IsFirst x) (sym t.1) y)) ∙ q)
          (λ t. L.only i u t.1 y ∙ q) (set_cases claims k i w u e);
      below = λ i lt b. same i lt ∙ L.below i lt (subst (λ n. i < n) ended b);
      next_opened = λ lt y. let lt' : L.first.ended < h.segments = subst (λ n. n < h.segments) ended lt in
          let eq : state' (h.segment_at first.ended) ≡ state (h.segment_at L.first.ended) = ap (λ n. state' (h.segment_at n)) ended ∙ same L.first.ended lt' in
          ⊎_elim (λ t. inl (eq ∙ t)) (λ t. inr (eq ∙ t)) (L.next_opened lt' (sym opened ∙ y));
      next_closed = λ lt y. let lt' : L.first.ended < h.segments = subst (λ n. n < h.segments) ended lt in
          ap (λ n. state' (h.segment_at n)) ended ∙ (same L.first.ended lt' ∙ L.next_closed lt' (sym opened ∙ y));
      later = λ i lt b. same i lt ∙ L.later i lt (subst (λ n. n < i) ended b);
    }

-- THE CLAUSES ON ONE PARTICIPANT

module _ (h : JobGraph) (state rest wait : ℕ → ℕ) (claims : List Claims) (C : AreExact h state rest wait claims) (k : ℕ) (v w : Claims)
    (at : slice_get claims k ≡ Some v) where
  -- a part of the claims that stays
  pub from_old : {A : Type 0} (f : Claims → A) → f w ≡ f v → (i : ℕ) (u : Claims) → slice_get (slice_set claims k w) i ≡ Some u
      → (x : Claims) × (slice_get claims i ≡ Some x) × (f x ≡ f u)
  from_old f same i u e = ⊎_elim (λ t. (v, ap (slice_get claims) t.0 ∙ at, sym same ∙ ap f t.1)) (λ t. (u, t.1, refl)) (set_cases claims k i w u e)

  pub rights_once_kept : w.rights ≡ v.rights → (i j p : ℕ) (t u : Claims) → slice_get (slice_set claims k w) i ≡ Some t
      → slice_get (slice_set claims k w) j ≡ Some u → has p t.rights ≡ true → has p u.rights ≡ true → i ≡ j
  rights_once_kept same i j p t u e f a b = let x = from_old (λ (y : Claims). y.rights) same i t e in let y = from_old (λ (z : Claims). z.rights) same j u f in
      C.rights_once i j p x.0 y.0 x.1 y.1 (ap (has p) x.2 ∙ a) (ap (has p) y.2 ∙ b)

  -- who had a right still has it
  pub rights_found : ((p : ℕ) → has p v.rights ≡ true → has p w.rights ≡ true) → (p i : ℕ) (u : Claims) → slice_get claims i ≡ Some u → has p u.rights ≡ true
      → (i' : ℕ) × (u' : Claims) × (slice_get (slice_set claims k w) i' ≡ Some u') × (has p u'.rights ≡ true)
  rights_found keep p i u e a = by_equal i k
      (λ q. (k, w, set_at claims k v w at, keep p (ap (λ (x : Claims). has p x.rights) (one_at claims k i u v q at e) ∙ a)))
      (λ n. (i, u, set_off claims k i w n ∙ e, a))

  pub seen_kept : w.seen ≡ v.seen → (i x : ℕ) (u : Claims) → slice_get (slice_set claims k w) i ≡ Some u → has x u.seen ≡ true → (x < h.jobs) × (rest x ≡ 0)
  seen_kept same i x u e a = let y = from_old (λ (z : Claims). z.seen) same i u e in C.seen i x y.0 y.1 (ap (has x) y.2 ∙ a)

  pub segment_duties_kept : SameSegments v w → (has_segment_duty w.duties ≡ true → has_segment_duty v.duties ≡ true)
      → (i : ℕ) (u : Claims) → slice_get (slice_set claims k w) i ≡ Some u → has_segment_duty u.duties ≡ true → IsFirst u
  segment_duties_kept S fewer i u e a = ⊎_elim
      (λ t. subst (λ x. IsFirst x) t.1 (still_first S (C.segment_duties k v at (fewer (ap (λ (x : Claims). has_segment_duty x.duties) t.1 ∙ a)))))
      (λ t. C.segment_duties i u t.1 a) (set_cases claims k i w u e)

pub same_duties : (v w : Claims) → w.duties ≡ v.duties → has_segment_duty w.duties ≡ true → has_segment_duty v.duties ≡ true
same_duties v w same a = ap has_segment_duty (sym same) ∙ a

-- STATES

-- a piece that isn't ended changes to a state: what is unblocked stays so
pub unblocked_kept : (h : JobGraph) (state state' rest : ℕ → ℕ) (p x : ℕ) → ChangesWord state state' p x → (q : ℕ) → state p ≢ ended_state
    → IsUnblocked h state rest q → IsUnblocked h state' rest q
unblocked_kept h state state' rest p x P q n r = let keeps : (z : ℕ) → state z ≡ ended_state
    → state' z ≡ ended_state = λ z e. P.there z (λ i. n (sym (ap state i) ∙ e)) ∙ e in record {
      starter = λ j lt part. keeps (h.segment_at (h.starter j)) (r.starter j lt part);
      dependencies = r.dependencies;
      before = λ k lt e. keeps (h.segment_at k) (r.before k lt e);
      waits = r.waits;
    }

-- the job's pieces are as many where each stays ended or not
pub parts_same : (h : JobGraph) (state state' : ℕ → ℕ) (j : ℕ) → ((q : ℕ) → q < h.pieces → h.is_part q j ≡ true → is_unended (state' q) ≡ is_unended (state q))
    → unended_parts h state' j ≡ unended_parts h state j
parts_same h state state' j same = tally_same (λ q. h.is_part q j && is_unended (state' q)) (λ q. h.is_part q j && is_unended (state q)) h.pieces
    (λ q lt. ⊎_elim (λ t. same_and (h.is_part q j) (same q lt t)) (λ f. and_none (h.is_part q j) (is_unended (state' q)) f
    ∙ sym (and_none (h.is_part q j) (is_unended (state q)) f)) (cases_Bool (h.is_part q j)))

pub unfinished_same : (h : JobGraph) (state state' rest : ℕ → ℕ) (j : ℕ) → is_unended (state' (h.segment_at (h.starter j))) ≡ is_unended
    (state (h.segment_at (h.starter j))) → unfinished h state' rest j ≡ unfinished h state rest j
unfinished_same h state state' rest j e = ap (λ (b : Bool). cond b 1 0 + tally (λ i. h.is_dependency i j && not (eqb (rest i) 0)) h.jobs) e
