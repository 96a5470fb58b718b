-- Counts over numbers, sums over participants, and the duties and rights of lists.
use Rattle.std.proofs.Common.{◌≡◌, ◌≢◌, ℕ, zero, suc, ◌+◌, ◌<◌, ◌≤◌, ◌⊎◌, inl, inr, ⊎_elim, Bool, true, false, ◌||◌, eqb, eq-eqb, ne_eqb, List, [], ◌∷◌, ◌++◌, refl, sym, ap, subst, ◌∙◌, arith, Some}
use Rattle.std.specs.Prelude.{slice_get, slice_set}
use Rattle.std.proofs.lemmas.Bool.{cases_Bool, cond-true, cond-false}
use Rattle.merge_laws.specs.Numbers.{has, numbers_of, tally, without_number}
use Rattle.merge_laws.specs.Claims.{Predecessor, by_job, Duty, Claims, total, duties_on, is_of_segment, has_segment_duty, duties_from, without_duty}
use Rattle.merge_laws.proofs.Tests.{not_both, some_is, none_some, by_equal, chosen, not_chosen}

-- COUNTS

hit : (f : ℕ → Bool) (n : ℕ) → f n ≡ true → tally f (suc n) ≡ suc (tally f n)
hit f n e = cond-true (f n) (suc (tally f n)) (tally f n) e

miss : (f : ℕ → Bool) (n : ℕ) → f n ≡ false → tally f (suc n) ≡ tally f n
miss f n e = cond-false (f n) (suc (tally f n)) (tally f n) e

-- tests that agree count the same
pub tally_same : (f g : ℕ → Bool) (n : ℕ) → ((i : ℕ) → i < n → f i ≡ g i) → tally f n ≡ tally g n
tally_same f g zero same = refl
tally_same f g (suc n) same = let r = tally_same f g n (λ i l. same i (omega arith)) in ⊎_elim
    (λ t. hit f n t ∙ (ap suc r ∙ sym (hit g n (sym (same n (omega arith)) ∙ t))))
    (λ t. miss f n t ∙ (r ∙ sym (miss g n (sym (same n (omega arith)) ∙ t)))) (cases_Bool (f n))

-- tests that agree but for one number, which passes the first alone, differ by one
pub tally_less : (f g : ℕ → Bool) (n i : ℕ) → i < n → f i ≡ true → g i ≡ false → ((j : ℕ) → j < n → j ≢ i → f j ≡ g j) → tally f n ≡ suc (tally g n)
tally_less f g zero i lt t u same = absurd (omega arith)
tally_less f g (suc n) i lt t u same = by_equal i n
    (λ e. hit f n (ap f (sym e) ∙ t) ∙ ap suc (tally_same f g n (λ j l. same j (omega arith) (λ q. omega arith)) ∙ sym (miss g n (ap g (sym e) ∙ u))))
    (λ ne. let r = tally_less f g n i (omega arith) t u (λ j l. same j (omega arith)) in let here = same n (omega arith) (λ q. ne (sym q)) in ⊎_elim
    (λ y. hit f n y ∙ (ap suc r ∙ sym (ap suc (hit g n (sym here ∙ y)))))
    (λ y. miss f n y ∙ (r ∙ sym (ap suc (miss g n (sym here ∙ y))))) (cases_Bool (f n)))

-- where none is counted none passes
pub tally_none : (f : ℕ → Bool) (n : ℕ) → tally f n ≡ 0 → (i : ℕ) → i < n → f i ≡ false
tally_none f zero z i lt = absurd (omega arith)
tally_none f (suc n) z i lt = ⊎_elim
    (λ t. let up = hit f n t in absurd (omega arith))
    (λ t. by_equal i n (λ e. ap f e ∙ t) (λ ne. tally_none f n (sym (miss f n t) ∙ z) i (omega arith))) (cases_Bool (f n))

-- SUMS

-- one participant's part of the sum changes
pub total_set : (f : Claims → ℕ) (claims : List Claims) (k : ℕ) (v w : Claims) → slice_get claims k ≡ Some v
    → total f (slice_set claims k w) + f v ≡ total f claims + f w
total_set f [] k v w e = absurd (none_some e)
total_set f (x ∷ xs) zero v w e = let same : f x ≡ f v = ap f (some_is e) in omega arith
total_set f (x ∷ xs) (suc k) v w e = let r = total_set f xs k v w e in omega arith

pub total_same : (f : Claims → ℕ) (claims : List Claims) (k : ℕ) (v w : Claims) → slice_get claims k ≡ Some v → f w ≡ f v
    → total f (slice_set claims k w) ≡ total f claims
total_same f claims k v w e same = let r = total_set f claims k v w e in omega arith

-- a participant more, who adds nothing
pub total_longer : (f : Claims → ℕ) (claims : List Claims) (u : Claims) → f u ≡ 0 → total f (claims ++ u ∷ []) ≡ total f claims
total_longer f [] u z = omega arith
total_longer f (x ∷ xs) u z = ap (λ m. f x + m) (total_longer f xs u z)

-- DUTIES OF LISTS

duty_counts : (d : Duty) (ds : List Duty) (j : ℕ) → d.job ≡ j → duties_on j (d ∷ ds) ≡ suc (duties_on j ds)
duty_counts d ds j q = chosen d.job j (suc (duties_on j ds)) (duties_on j ds) q

duty_passes : (d : Duty) (ds : List Duty) (j : ℕ) → d.job ≢ j → duties_on j (d ∷ ds) ≡ duties_on j ds
duty_passes d ds j n = not_chosen d.job j (suc (duties_on j ds)) (duties_on j ds) n

pub duties_append : (j : ℕ) (a b : List Duty) → duties_on j (a ++ b) ≡ duties_on j a + duties_on j b
duties_append j [] b = omega arith
duties_append j (d ∷ ds) b = let r = duties_append j ds b in by_equal d.job j
    (λ q. duty_counts d (ds ++ b) j q ∙ (let s : suc (duties_on j (ds ++ b)) ≡ suc (duties_on j ds) + duties_on j b = omega arith in
    s ∙ ap (λ m. m + duties_on j b) (sym (duty_counts d ds j q))))
    (λ n. duty_passes d (ds ++ b) j n ∙ (r ∙ ap (λ m. m + duties_on j b) (sym (duty_passes d ds j n))))

module _ (from : Predecessor) (test : ℕ → Bool) where
  takes_on : (n : ℕ) → test n ≡ true → duties_from from test (suc n) ≡ record { predecessor = from; job = n } ∷ duties_from from test n
  takes_on n t = cond-true (test n) (record { predecessor = from; job = n } ∷ duties_from from test n) (duties_from from test n) t

  passes_by : (n : ℕ) → test n ≡ false → duties_from from test (suc n) ≡ duties_from from test n
  passes_by n t = cond-false (test n) (record { predecessor = from; job = n } ∷ duties_from from test n) (duties_from from test n) t

  -- no duty on a job past the numbers, or that fails the test
  pub duties_from-none : (n j : ℕ) → (n ≤ j) ⊎ (test j ≡ false) → duties_on j (duties_from from test n) ≡ 0
  duties_from-none zero j out = refl
  duties_from-none (suc n) j out = let r = duties_from-none n j (⊎_elim (λ l. inl (omega arith)) inr out) in ⊎_elim
      (λ t. ap (duties_on j) (takes_on n t) ∙ (duty_passes (record { predecessor = from; job = n }) (duties_from from test n) j
      (λ e. ⊎_elim (λ l. omega arith) (λ u. not_both (ap test (sym e) ∙ t) u) out) ∙ r))
      (λ t. ap (duties_on j) (passes_by n t) ∙ r) (cases_Bool (test n))

  -- one on each job that passes
  pub duties_from-one : (n j : ℕ) → j < n → test j ≡ true → duties_on j (duties_from from test n) ≡ 1
  duties_from-one zero j lt u = absurd (omega arith)
  duties_from-one (suc n) j lt u = by_equal n j
      (λ e. ap (duties_on j) (takes_on n (ap test e ∙ u)) ∙ (duty_counts (record { predecessor = from; job = n }) (duties_from from test n) j e
      ∙ ap suc (duties_from-none n j (inl (omega arith)))))
      (λ ne. let r = duties_from-one n j (omega arith) u in ⊎_elim
      (λ t. ap (duties_on j) (takes_on n t) ∙ (duty_passes (record { predecessor = from; job = n }) (duties_from from test n) j ne ∙ r))
      (λ t. ap (duties_on j) (passes_by n t) ∙ r) (cases_Bool (test n)))

  -- the list gives one duty more on each job that passes
  pub duties_more : (n j : ℕ) (ds : List Duty) → j < n → test j ≡ true → duties_on j (duties_from from test n ++ ds) ≡ suc (duties_on j ds)
  duties_more n j ds lt u = let a = duties_append j (duties_from from test n) ds in let one = duties_from-one n j lt u in omega arith

  pub duties_same : (n j : ℕ) (ds : List Duty) → test j ≡ false → duties_on j (duties_from from test n ++ ds) ≡ duties_on j ds
  duties_same n j ds u = let a = duties_append j (duties_from from test n) ds in let none = duties_from-none n j (inr u) in omega arith

-- duties from a job are none from a segment
pub no_segment_duties : (i : ℕ) (test : ℕ → Bool) (n : ℕ) (ds : List Duty) → has_segment_duty (duties_from (by_job i) test n ++ ds) ≡ has_segment_duty ds
no_segment_duties i test zero ds = refl
no_segment_duties i test (suc n) ds = let r = no_segment_duties i test n ds in ⊎_elim
    (λ t. ap (λ (l : List Duty). has_segment_duty (l ++ ds)) (takes_on (by_job i) test n t) ∙ r)
    (λ t. ap (λ (l : List Duty). has_segment_duty (l ++ ds)) (passes_by (by_job i) test n t) ∙ r) (cases_Bool (test n))

-- dropping a duty on a job leaves one less on it, and as many on the others
pub without_duty-here : (j : ℕ) (ds : List Duty) → 0 < duties_on j ds → duties_on j ds ≡ suc (duties_on j (without_duty j ds))
without_duty-here j [] low = absurd (omega arith)
without_duty-here j (d ∷ ds) low = by_equal d.job j
    (λ q. duty_counts d ds j q ∙ ap (λ (l : List Duty). suc (duties_on j l)) (sym (chosen d.job j ds (d ∷ without_duty j ds) q)))
    (λ n. duty_passes d ds j n ∙ (without_duty-here j ds (subst (λ m. 0 < m) (duty_passes d ds j n) low)
    ∙ ap suc (sym (ap (duties_on j) (not_chosen d.job j ds (d ∷ without_duty j ds) n) ∙ duty_passes d (without_duty j ds) j n))))

pub without_duty-there : (i j : ℕ) (ds : List Duty) → i ≢ j → duties_on i (without_duty j ds) ≡ duties_on i ds
without_duty-there i j [] ne = refl
without_duty-there i j (d ∷ ds) ne = by_equal d.job j
    (λ q. ap (duties_on i) (chosen d.job j ds (d ∷ without_duty j ds) q) ∙ sym (duty_passes d ds i (λ e. ne (sym e ∙ q))))
    (λ n. ap (duties_on i) (not_chosen d.job j ds (d ∷ without_duty j ds) n) ∙ by_equal d.job i
    (λ e. duty_counts d (without_duty j ds) i e ∙ (ap suc (without_duty-there i j ds ne) ∙ sym (duty_counts d ds i e)))
    (λ e. duty_passes d (without_duty j ds) i e ∙ (without_duty-there i j ds ne ∙ sym (duty_passes d ds i e))))

pub without_duty-segments : (j : ℕ) (ds : List Duty) → has_segment_duty (without_duty j ds) ≡ true → has_segment_duty ds ≡ true
without_duty-segments j [] e = e
without_duty-segments j (d ∷ ds) e = by_equal d.job j
    (λ q. Rattle.std.proofs.lemmas.Bool.or_right (is_of_segment d.predecessor) (has_segment_duty ds)
    (sym (ap has_segment_duty (chosen d.job j ds (d ∷ without_duty j ds) q)) ∙ e))
    (λ n. ⊎_elim (λ t. Rattle.std.proofs.lemmas.Bool.or_left (is_of_segment d.predecessor) (has_segment_duty ds) t)
    (λ t. Rattle.std.proofs.lemmas.Bool.or_right (is_of_segment d.predecessor) (has_segment_duty ds) (without_duty-segments j ds t))
    (Rattle.std.proofs.lemmas.Bool.or_cases (is_of_segment d.predecessor) (has_segment_duty (without_duty j ds))
    (sym (ap has_segment_duty (not_chosen d.job j ds (d ∷ without_duty j ds) n)) ∙ e)))

-- RIGHTS OF LISTS

has_here : (p q : ℕ) (qs : List ℕ) → p ≡ q → has p (q ∷ qs) ≡ true
has_here p q qs e = ap (λ (b : Bool). b || has p qs) (eq-eqb p q e)

has_there : (p q : ℕ) (qs : List ℕ) → p ≢ q → has p (q ∷ qs) ≡ has p qs
has_there p q qs n = ap (λ (b : Bool). b || has p qs) (ne_eqb p q n)

-- the numbers that pass are in the list before what it is put to, and so is what was there
pub numbers_come : (test : ℕ → Bool) (n p : ℕ) (qs : List ℕ) → p < n → test p ≡ true → has p (numbers_of test n ++ qs) ≡ true
numbers_come test zero p qs lt t = absurd (omega arith)
numbers_come test (suc n) p qs lt t = let with_n : List ℕ = n ∷ numbers_of test n in by_equal p n
    (λ q. ap (λ (l : List ℕ). has p (l ++ qs)) (cond-true (test n) with_n (numbers_of test n) (ap test (sym q) ∙ t)) ∙ has_here p n (numbers_of test n ++ qs) q)
    (λ ne. let r = numbers_come test n p qs (omega arith) t in ⊎_elim
    (λ u. ap (λ (l : List ℕ). has p (l ++ qs)) (cond-true (test n) with_n (numbers_of test n) u) ∙ (has_there p n (numbers_of test n ++ qs) ne ∙ r))
    (λ u. ap (λ (l : List ℕ). has p (l ++ qs)) (cond-false (test n) with_n (numbers_of test n) u) ∙ r) (cases_Bool (test n)))

pub numbers_stay : (test : ℕ → Bool) (n p : ℕ) (qs : List ℕ) → has p qs ≡ true → has p (numbers_of test n ++ qs) ≡ true
numbers_stay test zero p qs e = e
numbers_stay test (suc n) p qs e = let with_n : List ℕ = n ∷ numbers_of test n in let r = numbers_stay test n p qs e in ⊎_elim
    (λ u. ap (λ (l : List ℕ). has p (l ++ qs)) (cond-true (test n) with_n (numbers_of test n) u)
    ∙ Rattle.std.proofs.lemmas.Bool.or_right (eqb p n) (has p (numbers_of test n ++ qs)) r)
    (λ u. ap (λ (l : List ℕ). has p (l ++ qs)) (cond-false (test n) with_n (numbers_of test n) u) ∙ r) (cases_Bool (test n))

pub numbers_only : (test : ℕ → Bool) (n p : ℕ) (qs : List ℕ) → has p (numbers_of test n ++ qs) ≡ true → (has p qs ≡ true) ⊎ ((p < n) × (test p ≡ true))
numbers_only test zero p qs e = inl e
numbers_only test (suc n) p qs e = let with_n : List ℕ = n ∷ numbers_of test n in
    let later : (has p (numbers_of test n ++ qs) ≡ true) → (has p qs ≡ true) ⊎ ((p < suc n) × (test p ≡ true)) =
    λ t. ⊎_elim inl (λ r. let lt = r.0 in inr (omega arith, r.1)) (numbers_only test n p qs t) in ⊎_elim
    (λ u. by_equal p n
    (λ q. inr (omega arith, ap test q ∙ u))
    (λ ne. later (sym (has_there p n (numbers_of test n ++ qs) ne) ∙ (sym
    (ap (λ (l : List ℕ). has p (l ++ qs)) (cond-true (test n) with_n (numbers_of test n) u)) ∙ e))))
    (λ u. later (sym (ap (λ (l : List ℕ). has p (l ++ qs)) (cond-false (test n) with_n (numbers_of test n) u)) ∙ e)) (cases_Bool (test n))

pub without_number-here : (p : ℕ) (qs : List ℕ) → has p (without_number p qs) ≡ false
without_number-here p [] = refl
without_number-here p (q ∷ qs) = by_equal p q
    (λ e. ap (has p) (chosen p q (without_number p qs) (q ∷ without_number p qs) e) ∙ without_number-here p qs)
    (λ n. ap (has p) (not_chosen p q (without_number p qs) (q ∷ without_number p qs) n) ∙ (has_there p q (without_number p qs) n ∙ without_number-here p qs))

pub without_number-there : (p i : ℕ) (qs : List ℕ) → i ≢ p → has i (without_number p qs) ≡ has i qs
without_number-there p i [] ne = refl
without_number-there p i (q ∷ qs) ne = by_equal p q
    (λ e. ap (has i) (chosen p q (without_number p qs) (q ∷ without_number p qs) e)
    ∙ (without_number-there p i qs ne ∙ sym (has_there i q qs (λ x. ne (x ∙ sym e)))))
    (λ n. ap (has i) (not_chosen p q (without_number p qs) (q ∷ without_number p qs) n) ∙ ap (λ (b : Bool). eqb i q || b) (without_number-there p i qs ne))
