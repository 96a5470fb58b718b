-- How many numbers pass a test: those that lie between two, and the dependencies of a job.
use Rattle.std.proofs.Common.{◌≡◌, ℕ, zero, suc, ◌+◌, ◌<◌, ◌≤◌, ◌⊎◌, inl, inr, ⊎_elim, Bool, true, false, ◌||◌, ◌&&◌, eqb, ltb, leb, lt-ltb, ltb-true, le-leb, leb-true, eq-eqb, ne_eqb, List, [], ◌∷◌, length, All, refl, ap, ◌∙◌, arith}
use Rattle.std.proofs.lemmas.Bool.{cond-true, cond-false, and_parts, and_from, or_left}
use Rattle.std.proofs.lemmas.List.Elements.{All-head, All-tail}
use Rattle.merge_laws.specs.Numbers.{tally}
use Rattle.merge_laws.proofs.Sums.{tally_less}
use Rattle.job_base.specs.declared.JobId.{JobId}
use Rattle.frame_core.specs.Names.{has_job}
use Rattle.frame_core.specs.Ordered.{IsAbove}
use Rattle.frame_core.proofs.Small.{either_bool}

-- HOW MANY NUMBERS LIE BETWEEN TWO

module _ (b c : ℕ) where
  abbrev pub within : ℕ → Bool
  within q = leb b q && ltb q (b + c)

  outside : (q : ℕ) → (q < b) ⊎ (b + c ≤ q) → within q ≡ false
  outside q out = ⊎_elim (λ t. let p = and_parts (leb b q) (ltb q (b + c)) t in let lo = leb-true b q p.0 in let hi = ltb-true q (b + c) p.1 in
      ⊎_elim (λ l. absurd (omega arith)) (λ r. absurd (omega arith)) out) (λ f. f) (either_bool (within q))

  pub inside : (q : ℕ) → b ≤ q → q < b + c → within q ≡ true
  inside q lo hi = and_from (leb b q) (ltb q (b + c)) (le-leb b q lo) (lt-ltb q (b + c) hi)

  none_yet : (n : ℕ) → n ≤ b → tally within n ≡ 0
  none_yet zero le = refl
  none_yet (suc n) le = cond-false (within n) (suc (tally within n)) (tally within n) (outside n (inl (omega arith))) ∙ none_yet n (omega arith)

  some_of : (d : ℕ) → d ≤ c → tally within (b + d) ≡ d
  some_of zero le = let e : b + 0 ≡ b = omega arith in ap (tally within) e ∙ none_yet b (omega arith)
  some_of (suc d) le = let e : b + suc d ≡ suc (b + d) = omega arith in
      ap (tally within) e ∙ (cond-true (within (b + d)) (suc (tally within (b + d))) (tally within (b + d)) (inside (b + d) (omega arith) (omega arith))
      ∙ ap suc (some_of d (omega arith)))

  pub all_of : (e : ℕ) → tally within (b + c + e) ≡ c
  all_of zero = let z : b + c + 0 ≡ b + c = omega arith in ap (tally within) z ∙ some_of c (omega arith)
  all_of (suc e) = let z : b + c + suc e ≡ suc (b + c + e) = omega arith in
      ap (tally within) z ∙ (cond-false (within (b + c + e)) (suc (tally within (b + c + e))) (tally within (b + c + e))
      (outside (b + c + e) (inr (omega arith))) ∙ all_of e)

-- HOW MANY DEPENDENCIES A JOB HAS

no_job_above : (ids : List JobId) (n m : ℕ) → IsAbove n ids → m ≤ n → has_job ids m ≡ false
no_job_above [] n m up le = refl
no_job_above (id ∷ more) n m up le = ap (λ (b : Bool). b || has_job more m) (ne_eqb id.0 m (λ e. let lt = up.0 in omega arith))
    ∙ no_job_above more id.0 m up.1 (let lt = up.0 in omega arith)

tally_nothing : (n : ℕ) → tally (λ i. false) n ≡ 0
tally_nothing zero = refl
tally_nothing (suc n) = tally_nothing n

-- The dependencies of a job rise, and each is one of the jobs.
pub deps_counted : (ids : List JobId) (n jobs : ℕ) → IsAbove n ids → All (λ (id : JobId). id.0 ≤ jobs) ids → tally (λ i. has_job ids (suc i)) jobs ≡ length ids
deps_counted [] n jobs up all = tally_nothing jobs
deps_counted (id ∷ more) n jobs up all =
    let p = pred_of id.0 (let lt = up.0 in omega arith) in
    let m : ℕ = p.0 in
    let is : id.0 ≡ suc m = p.1 in
    let le = All-head (λ (i : JobId). i.0 ≤ jobs) id more all in
    let low : m < jobs = omega arith in
    tally_less (λ i. has_job (id ∷ more) (suc i)) (λ i. has_job more (suc i)) jobs m low
    (or_left (eqb id.0 (suc m)) (has_job more (suc m)) (eq-eqb id.0 (suc m) is))
    (no_job_above more id.0 (suc m) up.1 (omega arith))
    (λ i lt ne. ap (λ (b : Bool). b || has_job more (suc i)) (ne_eqb id.0 (suc i) (λ e. ne (omega arith))))
    ∙ ap suc (deps_counted more id.0 jobs up.1 (All-tail (λ (i : JobId). i.0 ≤ jobs) id more all))
  where
    pred_of : (k : ℕ) → 0 < k → (m : ℕ) × (k ≡ suc m)
    pred_of zero h = absurd (omega arith)
    pred_of (suc k) h = (k, refl)
