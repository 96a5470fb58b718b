-- The jobs of a section among some jobs, in rising order.
use Rattle.std.proofs.Common.{◌≡◌, ℕ, zero, suc, ◌+◌, ◌-◌, ◌<◌, ◌≤◌, ⊎_elim, Bool, true, false, ◌&&◌, not, ◌||◌, eq-eqb, eqb-true, List, [], ◌∷◌, ◌++◌, length, get_or, refl, sym, ap, subst, ◌∙◌, arith}
use Rattle.std.specs.Prelude.{nat_eq, nat_lt, nat_le}
use Rattle.std.proofs.lemmas.Bool.{cases_eq, lt-ltb, leb-true, leb-false, le-leb}
use Rattle.job_base.specs.declared.JobId.{JobId}
use Rattle.frame_ast.specs.Jobs.{Jobs, nobody}
use Rattle.frame_ast.specs.Laws.{AreUpTo}
use Rattle.frame_core.specs.Names.{has_job}
use Rattle.frame_core.specs.Ordered.{IsAbove}
use Rattle.frame_core.proofs.Small.{not_both}
use Rattle.plan_laws.specs.Ledgers.{later}
use Rattle.plan_laws.specs.Planned.{AreJobsUpTo}

abbrev pub id : ℕ → JobId
id n = record { 0 = n }

-- the same as a recursion
abbrev Within : ℕ → ℕ → List JobId → Type 0
Within low n [] = Unit {0}
Within low n (j ∷ more) = (low < j.0) × (j.0 ≤ n) × Within j.0 n more

has_more : (ids : List JobId) (n j : ℕ) → has_job (ids ++ id n ∷ []) j ≡ (has_job ids j || nat_eq n j)
has_more [] n j = or_none (nat_eq n j)
  where
    or_none : (b : Bool) → (b || false) ≡ b
    or_none true = refl
    or_none false = refl
has_more (i ∷ ids) n j = ap (λ b. nat_eq i.0 j || b) (has_more ids n j) ∙ or_again (nat_eq i.0 j) (has_job ids j) (nat_eq n j)
  where
    or_again : (a b c : Bool) → (a || (b || c)) ≡ ((a || b) || c)
    or_again true b c = refl
    or_again false b c = refl

above_more : (ids : List JobId) (low n m : ℕ) → IsAbove low ids → ((k : ℕ) (d : JobId) → k < length ids → (get_or ids k d).0 ≤ n) → n < m → low ≤ n
    → IsAbove low (ids ++ id m ∷ [])
above_more [] low n m a all lt le = (let x : low < m = omega arith in (x, tt))
above_more (i ∷ ids) low n m a all lt le = (a.0, above_more ids i.0 n m a.1 (λ k d h. all (suc k) d (omega arith)) lt (all 0 i (omega arith)))

all_more : (ids : List JobId) (n m : ℕ) → ((k : ℕ) (d : JobId) → k < length ids → (get_or ids k d).0 ≤ n) → n ≤ m → (k : ℕ) (d : JobId)
    → k < length (ids ++ id m ∷ []) → (get_or (ids ++ id m ∷ []) k d).0 ≤ m
all_more [] n m all le zero d lt = omega arith
all_more [] n m all le (suc k) d lt = absurd (omega arith)
all_more (i ∷ ids) n m all le zero d lt = let h = all 0 i (omega arith) in omega arith
all_more (i ∷ ids) n m all le (suc k) d lt = all_more ids n m (λ k d h. all (suc k) d (omega arith)) le k d (omega arith)

abbrev pub AreSoFar : ℕ → ℕ → Jobs → List JobId → Type 0
AreSoFar before n jobs ids = AreJobsUpTo (n - before) ids × ((j : ℕ) → has_job ids j ≡ (nat_le (before + j) n && later before jobs j))

pub none_so_far : (before : ℕ) (jobs : Jobs) → (j : ℕ) → false ≡ (nat_le (before + j) before && later before jobs j)
none_so_far before jobs zero = sym (and_none (nat_le (before + 0) before))
  where
    and_none : (b : Bool) → (b && false) ≡ false
    and_none true = refl
    and_none false = refl
none_so_far before jobs (suc j) = by (nat_le (before + suc j) before) refl
  where
    by : (b : Bool) → nat_le (before + suc j) before ≡ b → false ≡ (b && later before jobs (suc j))
    by true e = (let le = leb-true (before + suc j) before e in absurd (omega arith))
    by false e = refl

-- no job of the plan is there at first
pub none_within : (n : ℕ) (ids : List JobId) → ids ≡ [] → AreJobsUpTo n ids
none_within n ids e = subst (AreJobsUpTo n) (sym e) (tt, λ k d lt. absurd (omega arith))

pub none_has : (ids : List JobId) → ids ≡ [] → (j : ℕ) → has_job ids j ≡ false
none_has ids e j = ap (λ xs. has_job xs j) e

-- one number more
next_number : (before n j : ℕ) (jobs : Jobs) → before ≤ n → (b : Bool) → b ≡ jobs (n + 1)
    → ((nat_le (before + j) n && later before jobs j) || (b && nat_eq (n + 1 - before) j)) ≡ (nat_le (before + j) (n + 1) && later before jobs j)
next_number before n j jobs le b is = by (nat_le (before + j) n) refl (nat_eq (n + 1 - before) j) refl
  where
    or_none : (b : Bool) → (b || false) ≡ b
    or_none true = refl
    or_none false = refl

    and_none : (b : Bool) → (b && false) ≡ false
    and_none true = refl
    and_none false = refl

    by : (x : Bool) → nat_le (before + j) n ≡ x → (y : Bool) → nat_eq (n + 1 - before) j ≡ y
        → ((x && later before jobs j) || (b && y)) ≡ (nat_le (before + j) (n + 1) && later before jobs j)
    by true e true f =
        let low = leb-true (before + j) n e in
        let same = eqb-true (n + 1 - before) j f in
        absurd (omega arith)
    by true e false f =
        let low = leb-true (before + j) n e in
        let up : nat_le (before + j) (n + 1) ≡ true = le-leb (before + j) (n + 1) (omega arith) in
        ap (λ z. later before jobs j || z) (and_none b) ∙ or_none (later before jobs j) ∙ ap (λ z. z && later before jobs j) (sym up)
    by false e true f =
        let same = eqb-true (n + 1 - before) j f in
        let up : nat_le (before + j) (n + 1) ≡ true = le-leb (before + j) (n + 1) (omega arith) in
        let pos : nat_lt 0 j ≡ true = lt-ltb 0 j (omega arith) in
        let at : n + 1 ≡ before + j = omega arith in
        let one = is ∙ ap jobs at in
        and_true b ∙ (λ i. sym up i && (sym pos i && one i))
      where
        and_true : (b : Bool) → (b && true) ≡ b
        and_true true = refl
        and_true false = refl
    by false e false f =
        let none : nat_le (before + j) (n + 1) ≡ false = not_le (nat_le (before + j) (n + 1)) refl in
        and_none b ∙ ap (λ z. z && later before jobs j) (sym none)
      where
        not_le : (z : Bool) → nat_le (before + j) (n + 1) ≡ z → z ≡ false
        not_le false g = refl
        not_le true g =
            let up = leb-true (before + j) (n + 1) g in
            let high = leb-false (before + j) n e in
            absurd (not_both (eq-eqb (n + 1 - before) j (omega arith)) f)

pub number_taken : (before n : ℕ) (jobs : Jobs) (ids new : List JobId) → before ≤ n → AreSoFar before n jobs ids → jobs (n + 1) ≡ true
    → new ≡ ids ++ id (n + 1 - before) ∷ [] → AreSoFar before (n + 1) jobs new
number_taken before n jobs ids new le so is e =
    let m = n + 1 - before in
    let lt : n - before < m = omega arith in
    subst (AreSoFar before (n + 1) jobs) (sym e) (
      (above_more ids 0 (n - before) m so.0.0 so.0.1 lt (omega arith), all_more ids (n - before) m so.0.1 (omega arith)),
      λ j. has_more ids m j ∙ ap (λ b. b || nat_eq m j) (so.1 j) ∙ next_number before n j jobs le true (sym is),
    )

pub number_passed : (before n : ℕ) (jobs : Jobs) (ids : List JobId) → before ≤ n → AreSoFar before n jobs ids → jobs (n + 1) ≡ false
    → AreSoFar before (n + 1) jobs ids
number_passed before n jobs ids le so is = (
  (so.0.0, λ k d h. let low = so.0.1 k d h in omega arith),
  λ j. so.1 j ∙ sym (or_none (nat_le (before + j) n && later before jobs j)) ∙ next_number before n j jobs le false (sym is),
)
  where
    or_none : (b : Bool) → (b || false) ≡ b
    or_none true = refl
    or_none false = refl

-- some numbers that aren't among them
pub numbers_passed : (before m n : ℕ) (jobs : Jobs) (ids : List JobId) → before ≤ m → m ≤ n → AreSoFar before m jobs ids
    → ((k : ℕ) → m < k → k ≤ n → jobs k ≡ false) → AreSoFar before n jobs ids
numbers_passed before m zero jobs ids low le so none = let z : m ≡ 0 = omega arith in subst (λ x. AreSoFar before x jobs ids) z so
numbers_passed before m (suc n) jobs ids low le so none = ⊎_elim
    (λ same. subst (λ x. AreSoFar before x jobs ids) same so)
    (λ less. let e : n + 1 ≡ suc n = omega arith in
    subst (λ x. AreSoFar before x jobs ids) e
    (number_passed before n jobs ids (omega arith) (numbers_passed before m n jobs ids low (omega arith) so (λ k a b. none k a (omega arith)))
    (ap jobs e ∙ none (suc n) (omega arith) (omega arith))))
    (cases_eq m (suc n))

-- none of some numbers, and then one
pub number_reached : (before at j : ℕ) (jobs : Jobs) (ids new : List JobId) → before ≤ at → at < j → AreSoFar before at jobs ids
    → jobs j ≡ true → ((k : ℕ) → at < k → k < j → jobs k ≡ false) → new ≡ ids ++ id (j - before) ∷ [] → AreSoFar before j jobs new
number_reached before at j jobs ids new low lt so is none more =
    let n : ℕ = j - 1 in
    let up : n + 1 ≡ j = omega arith in
    subst (λ x. AreSoFar before x jobs new) up
    (number_taken before n jobs ids new (omega arith)
    (numbers_passed before at n jobs ids low (omega arith) so (λ k a b. none k a (omega arith)))
    (ap jobs up ∙ is) (more ∙ ap (λ m. ids ++ id (m - before) ∷ []) (sym up)))

-- a set without nobody
pub without_none : (a none : Jobs) → none ≡ nobody → (k : ℕ) (b : Bool) → (a k && not (none k)) ≡ b → a k ≡ b
without_none a none e k b is = sym (and_true (a k)) ∙ ap (λ (o : Jobs). a k && not (o k)) (sym e) ∙ is
  where
    and_true : (x : Bool) → (x && true) ≡ x
    and_true true = refl
    and_true false = refl

-- all of them
pub all_numbers : (before n : ℕ) (jobs : Jobs) (ids : List JobId) → AreUpTo n jobs → AreSoFar before n jobs ids → (j : ℕ) → has_job ids j ≡ later before jobs j
all_numbers before n jobs ids up so j = so.1 j ∙ by (nat_le (before + j) n) refl (jobs (before + j)) refl
  where
    by : (x : Bool) → nat_le (before + j) n ≡ x → (y : Bool) → jobs (before + j) ≡ y → (x && (nat_lt 0 j && y)) ≡ (nat_lt 0 j && y)
    by true e y f = refl
    by false e true f = absurd (not_both (le-leb (before + j) n (up (before + j) f).1) e)
    by false e false f = sym (and_none (nat_lt 0 j))
      where
        and_none : (b : Bool) → (b && false) ≡ false
        and_none true = refl
        and_none false = refl
