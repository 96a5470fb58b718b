-- The best of some jobs.
use Rattle.std.proofs.Common.{◌≡◌, ℕ, ◌<◌, ◌≤◌, ◌⊎◌, inl, inr, ⊎_elim, Bool, true, false, cond, ◌||◌, ◌&&◌, eqb, ltb, eq-eqb, eqb-true, List, [], ◌∷◌, Some, refl, sym, ap, ◌∙◌, arith}
use Rattle.std.proofs.lemmas.Bool.{cases_lt, or_cases, ltb-true, lt-ltb, and_from}
use Rattle.job_base.specs.declared.JobId.{JobId}
use Rattle.frame_core.specs.Names.{has_job}
use Rattle.frame_core.proofs.Small.{not_both}
use Rattle.job_depth.specs.declared.levels.Best.{Best}
use Rattle.job_depth.specs.Direct.{level_of, number_of, beats, better, best_among, nothing, IsBest}

or_left : (x y : Bool) → x ≡ true → (x || y) ≡ true
or_left x y t = ap (λ z. z || y) t

or_right : (x y : Bool) → y ≡ true → (x || y) ≡ true
or_right true y t = refl
or_right false y t = t

pub best_none : (levels : List ℕ) (p : ℕ → Bool) → ((n : ℕ) → p n ≡ false) → IsBest levels p nothing
best_none levels p none = record {
  above = λ n t. absurd (not_both t (none n));
  least = λ n t e. absurd (not_both t (none n));
  is = inl refl;
}

pub best_same : (levels : List ℕ) (p q : ℕ → Bool) (b : Best) → ((n : ℕ) → q n ≡ p n) → IsBest levels p b → IsBest levels q b
best_same levels p q b e h = record {
  above = λ n t. h.above n (sym (e n) ∙ t);
  least = λ n t l. h.least n (sym (e n) ∙ t) l;
  is = ⊎_elim (λ none. inl none) (λ r. inr (e (number_of b.job) ∙ r.0, r.1, r.2)) h.is;
}

-- the same where the levels of the jobs of the test stay
pub best_stays : (old levels : List ℕ) (p : ℕ → Bool) (b : Best) → ((n : ℕ) → p n ≡ true → level_of levels n ≡ level_of old n) → IsBest old p b
    → IsBest levels p b
best_stays old levels p b e h = record {
  above = λ n t. let le = h.above n t in let s = e n t in omega arith;
  least = λ n t l. h.least n t (sym (e n t) ∙ l);
  is = ⊎_elim (λ none. inl none) (λ r. inr (r.0, e (number_of b.job) r.0 ∙ r.1, r.2)) h.is;
}

-- when another job is better
pub record Beats (b : Best) (level job : ℕ) : Type 0 where
  pub is : (b.level < level) ⊎ ((level ≡ b.level) × (job < number_of b.job))

beats_is : (b : Best) (level job : ℕ) → beats b level job ≡ true → Beats b level job
beats_is b level job t = ⊎_elim
    (λ u. record { is = inl (ltb-true b.level level u) })
    (λ u. let r = both (eqb level b.level) (ltb job (number_of b.job)) u in
    record { is = inr (eqb-true level b.level r.0, ltb-true job (number_of b.job) r.1) })
    (or_cases (ltb b.level level) (eqb level b.level && ltb job (number_of b.job)) t)
  where
    both : (x y : Bool) → (x && y) ≡ true → (x ≡ true) × (y ≡ true)
    both true y t = (refl, t)
    both false y t = absurd (not_both t refl)

not_beats : (b : Best) (level job : ℕ) → beats b level job ≡ false → (level ≤ b.level) × (level ≡ b.level → number_of b.job ≤ job)
not_beats b level job f = (
  ⊎_elim (λ (lt : b.level < level). absurd (not_both (ap (λ x. x || (eqb level b.level && ltb job (number_of b.job))) (lt-ltb b.level level lt)) f)) (λ h. h)
      (cases_lt b.level level),
  λ e. ⊎_elim (λ (lt : job < number_of b.job).
      let y : (eqb level b.level && ltb job (number_of b.job)) ≡ true = and_from (eqb level b.level) (ltb job (number_of b.job)) (eq-eqb level b.level e)
      (lt-ltb job (number_of b.job) lt) in
      absurd (not_both (or_right (ltb b.level level) (eqb level b.level && ltb job (number_of b.job)) y) f)) (λ h. h) (cases_lt job (number_of b.job)),
)

abbrev with_id : (ℕ → Bool) → ℕ → ℕ → Bool
with_id p id n = p n || eqb id n

best_more : (levels : List ℕ) (p : ℕ → Bool) (b : Best) (id : JobId) → 0 < level_of levels id.0 → IsBest levels p b
    → IsBest levels (with_id p id.0) (better b (level_of levels id.0) id)
best_more levels p b id some h = by (beats b (level_of levels id.0) id.0) refl
  where
    by : (x : Bool) → beats b (level_of levels id.0) id.0 ≡ x → IsBest levels (with_id p id.0)
        (cond x (record { level = level_of levels id.0; job = Some id }) b)
    by true t = let w = (beats_is b (level_of levels id.0) id.0 t).is in record {
      above = λ n u. ⊎_elim
          (λ v. let le = h.above n v in ⊎_elim (λ (a : b.level < level_of levels id.0). omega arith)
          (λ a. let e : level_of levels id.0 ≡ b.level = a.0 in omega arith) w)
          (λ v. let e : id.0 ≡ n = eqb-true id.0 n v in let s : level_of levels n ≡ level_of levels id.0 = ap (level_of levels) (sym e) in omega arith)
          (or_cases (p n) (eqb id.0 n) u);
      least = λ n u l. ⊎_elim
          (λ v. ⊎_elim (λ (a : b.level < level_of levels id.0). let le = h.above n v in absurd (omega arith))
          (λ a. let le = h.least n v (l ∙ a.0) in let lt = a.1 in omega arith) w)
          (λ v. let e : id.0 ≡ n = eqb-true id.0 n v in omega arith)
          (or_cases (p n) (eqb id.0 n) u);
      is = inr (or_right (p id.0) (eqb id.0 id.0) (eq-eqb id.0 id.0 refl), refl, some);
    }
    by false f = let w = not_beats b (level_of levels id.0) id.0 f in record {
      above = λ n u. ⊎_elim
          (λ v. h.above n v)
          (λ v. let e : id.0 ≡ n = eqb-true id.0 n v in let s : level_of levels n ≡ level_of levels id.0 = ap (level_of levels) (sym e) in let le = w.0 in
          omega arith)
          (or_cases (p n) (eqb id.0 n) u);
      least = λ n u l. ⊎_elim
          (λ v. h.least n v l)
          (λ v. let e : id.0 ≡ n = eqb-true id.0 n v in let s : level_of levels n ≡ level_of levels id.0 = ap (level_of levels) (sym e) in
          let le = w.1 (sym s ∙ l) in omega arith)
          (or_cases (p n) (eqb id.0 n) u);
      is = ⊎_elim (λ none. inl none) (λ r. inr (or_left (p (number_of b.job)) (eqb id.0 (number_of b.job)) r.0, r.1, r.2)) h.is;
    }

or_assoc : (a b c : Bool) → (a || (b || c)) ≡ ((a || b) || c)
or_assoc true b c = refl
or_assoc false b c = refl

or_false : (a : Bool) → (a || false) ≡ a
or_false true = refl
or_false false = refl

-- those of a list are looked at too
pub best_of_list : (levels : List ℕ) (p : ℕ → Bool) (b : Best) (ids : List JobId) → ((n : ℕ) → has_job ids n ≡ true → 0 < level_of levels n) → IsBest levels p b
    → IsBest levels (λ n. p n || has_job ids n) (best_among levels b ids)
best_of_list levels p b [] some h = best_same levels p (λ n. p n || false) b (λ n. or_false (p n)) h
best_of_list levels p b (id ∷ more) some h =
    let step = best_more levels p b id (some id.0 (ap (λ x. x || has_job more id.0) (eq-eqb id.0 id.0 refl))) h in
    let rest = best_of_list levels (with_id p id.0) (better b (level_of levels id.0) id) more (λ n t. some n (or_right (eqb id.0 n) (has_job more n) t)) step in
    best_same levels (λ n. with_id p id.0 n || has_job more n) (λ n. p n || has_job (id ∷ more) n) (best_among levels (better b (level_of levels id.0) id) more)
    (λ n. or_assoc (p n) (eqb id.0 n) (has_job more n)) rest
