-- From the newest job that is wanted down: what was chosen, and what happens before.
use Rattle.std.proofs.Common.{◌≡◌, ℕ, zero, suc, ◌+◌, ◌-◌, ◌<◌, ◌≤◌, ⊎_elim, ◌⊎◌, inl, inr, true, false, ◌&&◌, List, Option, None, Some, refl, sym, ap, subst, ◌∙◌, arith, ne_eqb}
use Rattle.std.specs.Prelude.{not, nat_eq, nat_lt}
use Rattle.std.proofs.lemmas.Bool.{or_left, or_right, or_cases, and_parts, and_from, eq-eqb, eqb-true, eqb-false, ltb-true, cases_eq, cases_Bool, not-true, not_from_false, false_from_ne_true}
use Rattle.job_base.specs.declared.JobId.{JobId}
use Rattle.job_base.specs.declared.limits.TheConstants.{MOST_JOBS}
use Rattle.job_base.specs.declared.Access.{Access}
use Rattle.frame_ast.specs.Jobs.{Jobs, nobody, only, both, ancestors_in, greatest, any_job, Book, happens_before}
use Rattle.frame_ast.specs.Conflicts.{Uses, Need, blocking, automatic, leads_to}
use Rattle.frame_ast.specs.Laws.{AreUpTo, AreUses}
use Rattle.frame_ast.proofs.Ancestry.{through, not_younger, greatest_in, greatest_above}
use Rattle.frame_ast.proofs.Blocking.{any_from, some_job, blocking_among}
use Rattle.job_handle.specs.declared.handle.Handle.{Handle}
use Rattle.job_handle.specs.declared.book.JobBook.{JobBook}
use Rattle.job_handle.specs.Sets.{jobs_of, bit_of, outside, job_numbered}
use Rattle.job_handle.specs.Books.{StandsFor}
use Rattle.job_handle.proofs.Booleans.{not_both, same_test}
use Rattle.safety_handle.specs.declared.tag.Tag.{Tag}
use Rattle.safety_handle.specs.declared.book.SafetyBook.{SafetyBook}
use Rattle.auto_deps.specs.Needs.{conflicting_with, AreNeeds}
use Rattle.auto_deps.proofs.Covered.{kept_blocks, each_is_led}

-- a chosen job leads to it
abbrev pub IsLed : Book → Handle → ℕ → Type 0
IsLed b chosen k = (m : ℕ) × (jobs_of chosen m ≡ true) × (ancestors_in b (only m) k ≡ true)

-- What happens before is what did so without a choice, and what the chosen jobs lead to. These were wanted, none of them
-- happened before, none leads to another, and all that is still wanted is older.
pub record IsChosen (jobs : JobBook) (after wanted chosen before : Handle) : Type 0 where
  pub sub : (b : Book) → StandsFor jobs b → (k : ℕ) → jobs_of before k ≡ true → (happens_before b (jobs_of after) k ≡ true) ⊎ IsLed b chosen k
  pub already : (b : Book) → StandsFor jobs b → (k : ℕ) → happens_before b (jobs_of after) k ≡ true → jobs_of before k ≡ true
  pub led : (b : Book) → StandsFor jobs b → (k : ℕ) → IsLed b chosen k → jobs_of before k ≡ true
  pub own : (m : ℕ) → jobs_of chosen m ≡ true → jobs_of wanted m ≡ true
  pub late : (b : Book) → StandsFor jobs b → (m : ℕ) → jobs_of chosen m ≡ true → happens_before b (jobs_of after) m ≡ false
  pub apart : (b : Book) → StandsFor jobs b → (j k : ℕ) → jobs_of chosen j ≡ true → jobs_of chosen k ≡ true → ancestors_in b (only k) j ≡ true → k ≡ j
  pub order : (m k : ℕ) → jobs_of chosen m ≡ true → outside (jobs_of wanted) (jobs_of before) k ≡ true → k < m

pub none_yet : (jobs : JobBook) (after wanted chosen before : Handle) → jobs_of chosen ≡ nobody
    → ((b : Book) → StandsFor jobs b → (k : ℕ) → jobs_of before k ≡ happens_before b (jobs_of after) k) → IsChosen jobs after wanted chosen before
none_yet jobs after wanted chosen before e is = record {
  sub = λ b F k t. inl (sym (is b F k) ∙ t);
  already = λ b F k t. is b F k ∙ t;
  led = λ b F k m. absurd (no m.0 m.1);
  own = λ m t. absurd (no m t);
  late = λ b F m t. absurd (no m t);
  apart = λ b F j k t s a. absurd (no j t);
  order = λ m k t s. absurd (no m t);
}
  where
    no : (m : ℕ) → jobs_of chosen m ≡ true → ⊥
    no m t = not_both t (λ i. e i m)

abbrev pub number_of : Option JobId → ℕ
number_of None = 0
number_of (Some j) = j.0

-- a number that stands for a job
numbered : (g j : ℕ) → Some (record { 0 = j }) ≡ job_numbered g → (g ≡ j) × (0 < g)
numbered zero j e = absurd cc
numbered (suc g) j e = (sym (ap number_of e), omega arith)

-- THE NEXT JOB

module _ (jobs : JobBook) (after wanted chosen before : Handle) (C : IsChosen jobs after wanted chosen before)
    (n j : ℕ) (found : Some (record { 0 = j }) ≡ job_numbered (greatest (outside (jobs_of wanted) (jobs_of before)) n))
    (known : AreUpTo n (jobs_of wanted)) where
  abbrev left : Jobs
  left = outside (jobs_of wanted) (jobs_of before)

  is : greatest left n ≡ j
  is = (numbered (greatest left n) j found).0

  pub is_left : left j ≡ true
  is_left = subst (λ x. left x ≡ true) is (greatest_in left n (numbered (greatest left n) j found).1)

  pub is_wanted : jobs_of wanted j ≡ true
  is_wanted = (and_parts (jobs_of wanted j) (not (jobs_of before j)) is_left).0

  not_before : jobs_of before j ≡ false
  not_before = not-true (jobs_of before j) (and_parts (jobs_of wanted j) (not (jobs_of before j)) is_left).1

  is_greatest : (k : ℕ) → left k ≡ true → k ≤ j
  is_greatest k t = subst (λ x. k ≤ x) is (greatest_above left n k (known k (and_parts (jobs_of wanted k) (not (jobs_of before k)) t).0).1 t)

  pub range : (0 < j) × (j ≤ n)
  range = known j is_wanted

  module _ (one row more all : Handle) (single : jobs_of one ≡ only j) (rows : (b : Book) → StandsFor jobs b → (k : ℕ)
      → jobs_of row k ≡ ancestors_in b (jobs_of one) k)
      (own : (k : ℕ) → jobs_of one k ≡ true → jobs_of row k ≡ true) (grown : jobs_of more ≡ both (jobs_of chosen) (jobs_of one))
      (widened : jobs_of all ≡ both (jobs_of before) (jobs_of row)) where
    row_is : (b : Book) → StandsFor jobs b → (k : ℕ) → jobs_of row k ≡ ancestors_in b (only j) k
    row_is b F k = rows b F k ∙ ap (λ s. ancestors_in b s k) single

    grown_cases : (m : ℕ) → jobs_of more m ≡ true → (jobs_of chosen m ≡ true) ⊎ (m ≡ j)
    grown_cases m t = ⊎_elim (λ a. inl a) (λ a. inr (eqb-true m j (sym (λ i. single i m) ∙ a)))
        (or_cases (jobs_of chosen m) (jobs_of one m) (sym (λ i. grown i m) ∙ t))

    was : (m : ℕ) → jobs_of chosen m ≡ true → jobs_of more m ≡ true
    was m t = (λ i. grown i m) ∙ or_left (jobs_of chosen m) (jobs_of one m) t

    is_new : jobs_of more j ≡ true
    is_new = (λ i. grown i j) ∙ or_right (jobs_of chosen j) (jobs_of one j) ((λ i. single i j) ∙ eq-eqb j j refl)

    stays : (k : ℕ) → jobs_of before k ≡ true → jobs_of all k ≡ true
    stays k t = (λ i. widened i k) ∙ or_left (jobs_of before k) (jobs_of row k) t

    is_there : jobs_of all j ≡ true
    is_there = (λ i. widened i j) ∙ or_right (jobs_of before j) (jobs_of row j) (own j ((λ i. single i j) ∙ eq-eqb j j refl))

    comes : (b : Book) → StandsFor jobs b → (k : ℕ) → ancestors_in b (only j) k ≡ true → jobs_of all k ≡ true
    comes b F k t = (λ i. widened i k) ∙ or_right (jobs_of before k) (jobs_of row k) (row_is b F k ∙ t)

    all_cases : (b : Book) → StandsFor jobs b → (k : ℕ) → jobs_of all k ≡ true → (jobs_of before k ≡ true) ⊎ (ancestors_in b (only j) k ≡ true)
    all_cases b F k t = ⊎_elim
        (λ a. inl a)
        (λ a. inr (sym (row_is b F k) ∙ a))
        (or_cases (jobs_of before k) (jobs_of row k) (sym (λ i. widened i k) ∙ t))

    less_left : (k : ℕ) → outside (jobs_of wanted) (jobs_of all) k ≡ true → left k ≡ true
    less_left k t =
        let p = and_parts (jobs_of wanted k) (not (jobs_of all k)) t in
        and_from (jobs_of wanted k) (not (jobs_of before k)) p.0 (not_from_false (jobs_of before k)
        (false_from_ne_true (jobs_of before k) (λ s. not_both (stays k s) (not-true (jobs_of all k) p.1))))

    older : (k : ℕ) → outside (jobs_of wanted) (jobs_of all) k ≡ true → k < j
    older k t = ⊎_elim
        (λ q. absurd (not_both (subst (λ x. jobs_of all x ≡ true) (sym q) is_there)
        (not-true (jobs_of all k) (and_parts (jobs_of wanted k) (not (jobs_of all k)) t).1)))
        (λ ne. let le = is_greatest k (less_left k t) in omega arith)
        (cases_eq k j)

    pub one_more : IsChosen jobs after wanted more all
    one_more = record {
      sub = λ b F k t. ⊎_elim
          (λ a. ⊎_elim (λ h. inl h) (λ m. inr (m.0, was m.0 m.1, m.2)) (C.sub b F k a))
          (λ a. inr (j, is_new, a))
          (all_cases b F k t);
      already = λ b F k t. stays k (C.already b F k t);
      led = λ b F k m. ⊎_elim
          (λ a. stays k (C.led b F k (m.0, a, m.2)))
          (λ q. comes b F k (subst (λ x. ancestors_in b (only x) k ≡ true) q m.2))
          (grown_cases m.0 m.1);
      own = λ m t. ⊎_elim (λ a. C.own m a) (λ q. subst (λ x. jobs_of wanted x ≡ true) (sym q) is_wanted) (grown_cases m t);
      late = λ b F m t. ⊎_elim
          (λ a. C.late b F m a)
          (λ q. subst (λ x. happens_before b (jobs_of after) x ≡ false) (sym q)
          (false_from_ne_true (happens_before b (jobs_of after) j) (λ h. not_both (C.already b F j h) not_before)))
          (grown_cases m t);
      apart = λ b F x k s t a. ⊎_elim
          (λ old_x. ⊎_elim
          (λ old_k. C.apart b F x k old_x old_k a)
          (λ q. let less : j < x = C.order x j old_x is_left in
          let le : x ≤ k = not_younger b.deps b.count F.known.older k x a in absurd (omega arith))
          (grown_cases k t))
          (λ p. ⊎_elim
          (λ old_k. absurd (not_both (C.led b F j (k, old_k, subst (λ y. ancestors_in b (only k) y ≡ true) p a)) not_before))
          (λ q. q ∙ sym p)
          (grown_cases k t))
          (grown_cases x s);
      order = λ m k t s. ⊎_elim
          (λ a. C.order m k a (less_left k s))
          (λ q. let less = older k s in omega arith)
          (grown_cases m t);
    }

    -- fewer are left
    pub fewer : greatest (outside (jobs_of wanted) (jobs_of all)) n < greatest left n
    fewer =
        let high : j ≤ greatest left n = greatest_above left n j range.1 is_left in
        let low = range.0 in
        ⊎_elim
        (λ z. omega arith)
        (λ ne. let less = older (greatest (outside (jobs_of wanted) (jobs_of all)) n) (greatest_in (outside (jobs_of wanted) (jobs_of all)) n (omega arith)) in
        omega arith)
        (cases_eq (greatest (outside (jobs_of wanted) (jobs_of all)) n) 0)

-- ALL OF THEM

-- a set of jobs has none above the most
pub within_all : (h : Handle) → AreUpTo MOST_JOBS (jobs_of h)
within_all h k t =
    let p = and_parts (nat_lt 0 k && nat_lt k (MOST_JOBS + 1)) (bit_of h.words (k - 1)) t in
    let q = and_parts (nat_lt 0 k) (nat_lt k (MOST_JOBS + 1)) p.0 in
    let high = ltb-true k (MOST_JOBS + 1) q.1 in
    (ltb-true 0 k q.0, omega arith)

pub none_is_left : (wanted before : Handle) (n : ℕ) → AreUpTo n (jobs_of wanted) → None ≡ job_numbered (greatest (outside (jobs_of wanted) (jobs_of before)) n)
    → (k : ℕ) → jobs_of wanted k ≡ true → jobs_of before k ≡ true
none_is_left wanted before n known found k t = ⊎_elim
    (λ y. y)
    (λ no.
    let range = known k t in
    let up = greatest_above (outside (jobs_of wanted) (jobs_of before)) n k range.1
    (and_from (jobs_of wanted k) (not (jobs_of before k)) t (not_from_false (jobs_of before k) no)) in
    let low = range.0 in
    let z : greatest (outside (jobs_of wanted) (jobs_of before)) n ≡ 0 = no_number (greatest (outside (jobs_of wanted) (jobs_of before)) n) found in
    absurd (omega arith))
    (cases_Bool (jobs_of before k))
  where
    no_number : (g : ℕ) → None ≡ job_numbered g → g ≡ 0
    no_number zero e = refl
    no_number (suc g) e = absurd cc

module _ (jobs : JobBook) (after wanted chosen before : Handle) (C : IsChosen jobs after wanted chosen before)
    (done : (k : ℕ) → jobs_of wanted k ≡ true → jobs_of before k ≡ true)
    (book : SafetyBook) (given : List (Tag × Access)) (kept : (k : ℕ) → jobs_of wanted k ≡ conflicting_with book given k)
    (b : Book) (uses : ℕ → Uses) (needs : List Need) (F : StandsFor jobs b) (known : (c : ℕ) → AreUses b (uses c)) (N : AreNeeds b uses book given needs) where
  abbrev set : Jobs
  set = blocking b uses (jobs_of after) needs

  chosen_blocks : (j : ℕ) → jobs_of chosen j ≡ true → set j ≡ true
  chosen_blocks j t = kept_blocks b F.known (jobs_of after) uses known book given needs N j (sym (kept j) ∙ C.own j t) (C.late b F j t)

  -- a chosen job leads to each blocker
  is_led : (j : ℕ) → set j ≡ true → IsLed b chosen j
  is_led j t =
      let c = each_is_led b F.known (jobs_of after) uses known book given needs N j t in
      ⊎_elim
      (λ h. absurd (not_both h c.2))
      (λ m. (m.0, m.1, through b.deps b.count F.known.older (only m.0) c.0 m.2 j c.3))
      (C.sub b F c.0 (done c.0 (kept c.0 ∙ c.1)))

  pub is_automatic : (j : ℕ) → jobs_of chosen j ≡ automatic b uses (jobs_of after) needs j
  is_automatic j = same_test (jobs_of chosen j) (automatic b uses (jobs_of after) needs j)
      (λ t. and_from (set j) (not (any_job (above j) b.count)) (chosen_blocks j t)
      (not_from_false (any_job (above j) b.count) (false_from_ne_true (any_job (above j) b.count) (λ s.
      let k = some_job (above j) b.count s in
      let p = and_parts (set k.0) (leads_to b k.0 j) k.2 in
      let q = and_parts (not (nat_eq k.0 j)) (ancestors_in b (only k.0) j) p.1 in
      let m = is_led k.0 p.0 in
      let same : m.0 ≡ j = C.apart b F j m.0 t m.1 (through b.deps b.count F.known.older (only m.0) k.0 m.2 j q.1) in
      let low : k.0 ≤ m.0 = not_younger b.deps b.count F.known.older m.0 k.0 m.2 in
      let high : j ≤ k.0 = not_younger b.deps b.count F.known.older k.0 j q.1 in
      eqb-false k.0 j (not-true (nat_eq k.0 j) q.0) (omega arith)))))
      (λ t.
      let p = and_parts (set j) (not (any_job (above j) b.count)) t in
      let m = is_led j p.0 in
      ⊎_elim
      (λ q. subst (λ x. jobs_of chosen x ≡ true) q m.1)
      (λ ne. let range = blocking_among b uses known (jobs_of after) needs m.0 (chosen_blocks m.0 m.1) in
      absurd (not_both (any_from (above j) b.count m.0 range.0 range.1 (and_from (set m.0) (leads_to b m.0 j) (chosen_blocks m.0 m.1)
      (and_from (not (nat_eq m.0 j)) (ancestors_in b (only m.0) j) (not_from_false (nat_eq m.0 j) (ne_eqb m.0 j ne)) m.2)))
      (not-true (any_job (above j) b.count) p.1)))
      (cases_eq m.0 j))
    where
      above : ℕ → Jobs
      above j k = set k && leads_to b k j
