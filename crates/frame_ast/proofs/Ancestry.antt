-- Ancestors: the pass over the jobs gives the least set, and what that says of larger books.
use Rattle.std.proofs.Common.{◌≡◌, ℕ, zero, suc, ◌<◌, ◌≤◌, ⊎_elim, true, false, ◌&&◌, ◌||◌, sym, subst, ◌∙◌, arith}
use Rattle.std.proofs.lemmas.Bool.{or_left, or_right, or_cases, and_parts, and_from, eqb-true, cases_eq, cases_Bool, cond-true, cond-false, both_ways}
use Rattle.frame_ast.specs.Jobs.{Jobs, only, ancestors, Ancestor, own, older, greatest}
use Rattle.frame_ast.specs.Laws.{AreOlder, AncestorsAreLeast}

module _ (deps : ℕ → Jobs) where
  -- what one job adds to what is wanted
  abbrev wider : ℕ → Jobs → Jobs
  wider n wanted k = wanted k || (wanted (suc n) && deps (suc n) k)

  pub contains : (n : ℕ) (wanted : Jobs) (j : ℕ) → wanted j ≡ true → ancestors deps n wanted j ≡ true
  contains zero wanted j e = e
  contains (suc n) wanted j e = contains n (wider n wanted) j (or_left (wanted j) (wanted (suc n) && deps (suc n) j) e)

  -- Induction over ancestors: what holds of the given jobs and, with a job, of its dependency set, holds of all ancestors.
  pub least : (P : ℕ → Type 0) → ((j k : ℕ) → P j → deps j k ≡ true → P k) → (n : ℕ) (wanted : Jobs) → ((j : ℕ) → wanted j ≡ true → P j) → (j : ℕ)
      → ancestors deps n wanted j ≡ true → P j
  least P closed zero wanted h j e = h j e
  least P closed (suc n) wanted h j e = least P closed n (wider n wanted) (λ k t. ⊎_elim
      (λ a. h k a)
      (λ a. let p = and_parts (wanted (suc n)) (deps (suc n) k) a in closed (suc n) k (h (suc n) p.0) p.1)
      (or_cases (wanted k) (wanted (suc n) && deps (suc n) k) t)) j e

  -- of the jobs after n, the pass over the first n wants just what is given
  later_given : (n : ℕ) → ((j k : ℕ) → j ≤ n → deps j k ≡ true → k < j) → (wanted : Jobs) (j : ℕ) → n < j → ancestors deps n wanted j ≡ true → wanted j ≡ true
  later_given zero o wanted j lt e = e
  later_given (suc n) o wanted j lt e = ⊎_elim
      (λ a. a)
      (λ a. let less : j < suc n = o (suc n) j (omega arith) (and_parts (wanted (suc n)) (deps (suc n) j) a).1 in absurd (omega arith))
      (or_cases (wanted j) (wanted (suc n) && deps (suc n) j) (later_given n (λ i k le d. o i k (omega arith) d) (wider n wanted) j (omega arith) e))

  -- with each of the n jobs it has the dependency set
  pub closes : (n : ℕ) → ((j k : ℕ) → j ≤ n → deps j k ≡ true → k < j) → (wanted : Jobs) (j k : ℕ) → j ≤ n → ancestors deps n wanted j ≡ true → deps j k ≡ true
      → ancestors deps n wanted k ≡ true
  closes zero o wanted j k le e d = let less : k < j = o j k le d in absurd (omega arith)
  closes (suc n) o wanted j k le e d = ⊎_elim
      (λ q. contains n (wider n wanted) k (or_right (wanted k) (wanted (suc n) && deps (suc n) k)
      (and_from (wanted (suc n)) (deps (suc n) k) (newest_wanted (subst (λ i. ancestors deps (suc n) wanted i ≡ true) q e))
      (subst (λ i. deps i k ≡ true) q d))))
      (λ ne. closes n (λ i m h x. o i m (omega arith) x) (wider n wanted) j k (omega arith) e d)
      (cases_eq j (suc n))
    where
      newest_wanted : ancestors deps n (wider n wanted) (suc n) ≡ true → wanted (suc n) ≡ true
      newest_wanted e = ⊎_elim (λ a. a) (λ a. (and_parts (wanted (suc n)) (deps (suc n) (suc n)) a).0)
          (or_cases (wanted (suc n)) (wanted (suc n) && deps (suc n) (suc n))
          (later_given n (λ i m h x. o i m (omega arith) x) (wider n wanted) (suc n) (omega arith) e))

pub ancestors_are_least : AncestorsAreLeast
ancestors_are_least deps n given o j = (
  (λ e. least deps (λ i. Ancestor deps given i) (λ i k a d. older a d) n given (λ i g. own g) j e),
  (λ a. to a),
)
  where
    to : {i : ℕ} → Ancestor deps given i → ancestors deps n given i ≡ true
    to (own {j = i} g) = contains deps n given i g
    to (older {j = i} {k = k} a d) = closes deps n (λ x y le e. (o x y e).1.1) given i k (o i k d).0 (to a) d

-- more jobs, more dependencies and more that is given lead to no less
pub grows : (deps more : ℕ → Jobs) (n m : ℕ) (given wide : Jobs) → AreOlder more m → ((j k : ℕ) → deps j k ≡ true → more j k ≡ true)
    → ((j : ℕ) → given j ≡ true → ancestors more m wide j ≡ true)
    → (j : ℕ) → ancestors deps n given j ≡ true → ancestors more m wide j ≡ true
grows deps more n m given wide o d g j e = least deps (λ i. ancestors more m wide i ≡ true)
    (λ i k t x. closes more m (λ a b le y. (o a b y).1.1) wide i k (o i k (d i k x)).0 t (d i k x)) n given g j e

-- ancestors of an ancestor are ancestors
pub through : (deps : ℕ → Jobs) (n : ℕ) → AreOlder deps n → (given : Jobs) (k : ℕ) → ancestors deps n given k ≡ true → (j : ℕ)
    → ancestors deps n (only k) j ≡ true → ancestors deps n given j ≡ true
through deps n o given k a j e = grows deps deps n n (only k) given o (λ i m d. d)
    (λ i t. subst (λ x. ancestors deps n given x ≡ true) (sym (eqb-true i k t)) a) j e

-- an ancestor of a job isn't younger
pub not_younger : (deps : ℕ → Jobs) (n : ℕ) → AreOlder deps n → (k j : ℕ) → ancestors deps n (only k) j ≡ true → j ≤ k
not_younger deps n o k j e = least deps (λ i. i ≤ k) (λ i m le d. let less = (o i m d).1.1 in omega arith) n (only k)
    (λ i t. let same : i ≡ k = eqb-true i k t in omega arith) j e

-- THE GREATEST OF A SET

pub greatest_below : (set : Jobs) (n : ℕ) → greatest set n ≤ n
greatest_below set zero = omega arith
greatest_below set (suc n) = ⊎_elim
    (λ t. subst (λ x. x ≤ suc n) (sym (cond-true (set (suc n)) (suc n) (greatest set n) t)) (omega arith))
    (λ t. subst (λ x. x ≤ suc n) (sym (cond-false (set (suc n)) (suc n) (greatest set n) t)) (let h = greatest_below set n in omega arith))
    (cases_Bool (set (suc n)))

pub greatest_in : (set : Jobs) (n : ℕ) → 0 < greatest set n → set (greatest set n) ≡ true
greatest_in set zero lt = absurd (omega arith)
greatest_in set (suc n) lt = ⊎_elim
    (λ t. subst (λ x. set x ≡ true) (sym (cond-true (set (suc n)) (suc n) (greatest set n) t)) t)
    (λ t. let e : greatest set (suc n) ≡ greatest set n = cond-false (set (suc n)) (suc n) (greatest set n) t in
    subst (λ x. set x ≡ true) (sym e) (greatest_in set n (subst (λ x. 0 < x) e lt)))
    (cases_Bool (set (suc n)))

pub greatest_above : (set : Jobs) (n j : ℕ) → j ≤ n → set j ≡ true → j ≤ greatest set n
greatest_above set zero j le t = omega arith
greatest_above set (suc n) j le t = ⊎_elim
    (λ s. subst (λ x. j ≤ x) (sym (cond-true (set (suc n)) (suc n) (greatest set n) s)) le)
    (λ s. subst (λ x. j ≤ x) (sym (cond-false (set (suc n)) (suc n) (greatest set n) s)) (greatest_above set n j (older_than s) t))
    (cases_Bool (set (suc n)))
  where
    older_than : set (suc n) ≡ false → j ≤ n
    older_than s = ⊎_elim (λ q. absurd (both_ways (set (suc n)) s (subst (λ x. set x ≡ true) q t))) (λ ne. omega arith) (cases_eq j (suc n))

pub greatest_none : (set : Jobs) (n : ℕ) → greatest set n ≡ 0 → (j : ℕ) → 0 < j → j ≤ n → set j ≡ false
greatest_none set n z j p le = ⊎_elim (λ t. let h = greatest_above set n j le t in absurd (omega arith)) (λ t. t) (cases_Bool (set j))

-- two sets have the same greatest, where one is in the other and each of the wider has one of the other not below it
pub greatest_same : (p q : Jobs) (n : ℕ) → ((j : ℕ) → 0 < j → j ≤ n → q j ≡ true → p j ≡ true)
    → ((j : ℕ) → 0 < j → j ≤ n → p j ≡ true → (k : ℕ) × (j ≤ k) × (k ≤ n) × (q k ≡ true)) → greatest q n ≡ greatest p n
greatest_same p q n sub cover = ⊎_elim
    (λ z. ⊎_elim
    (λ y. z ∙ sym y)
    (λ y. let c = cover (greatest p n) (omega arith) (greatest_below p n) (greatest_in p n (omega arith)) in
    let up = greatest_above q n c.0 c.2 c.3 in let h = c.1 in absurd (omega arith))
    (cases_eq (greatest p n) 0))
    (λ z. let low : greatest q n ≤ greatest p n = greatest_above p n (greatest q n) (greatest_below q n)
    (sub (greatest q n) (omega arith) (greatest_below q n) (greatest_in q n (omega arith))) in
    let c = cover (greatest p n) (omega arith) (greatest_below p n) (greatest_in p n (omega arith)) in
    let h = c.1 in let up = greatest_above q n c.0 c.2 c.3 in omega arith)
    (cases_eq (greatest q n) 0)
