-- How the fewest jobs are found, from the latest one down to `left` + 1.
use Rattle.std.proofs.Common.{◌≡◌, ℕ, zero, suc, ◌-◌, ◌<◌, ◌⊎◌, inl, inr, ⊎_elim, Bool, true, false, ◌||◌, List, [], ◌∷◌, ◌++◌, length, Some, None, refl, sym, ap, subst, ◌∙◌, arith}
use Rattle.std.specs.Prelude.{slice_get}
use Rattle.std.proofs.lemmas.Bool.{cases_eq, or_cases, or_left, or_right}
use Rattle.job_base.specs.declared.JobId.{JobId}
use Rattle.frame_ast.specs.Jobs.{Jobs}
use Rattle.frame_ast.specs.Laws.{AreUpTo}
use Rattle.job_handle.specs.declared.handle.Handle.{Handle}
use Rattle.job_handle.specs.Sets.{jobs_of}
use Rattle.job_fewest.specs.Fewest.{Leads, IsLedTo}

pub record IsFound (rows : List Handle) (wanted covered : Jobs) (ids : List JobId) (left : ℕ) : Type 0 where
  pub each : (i : ℕ) (x : JobId) → slice_get ids i ≡ Some x → wanted x.0 ≡ true
  pub apart : (i j : ℕ) (x y : JobId) → i < j → slice_get ids i ≡ Some x → slice_get ids j ≡ Some y
      → (y.0 < x.0) × (Leads rows x.0 y.0 → ⊥)
  pub above : (i : ℕ) (x : JobId) → slice_get ids i ≡ Some x → left < x.0
  pub from : (k : ℕ) → covered k ≡ true → IsLedTo rows ids k
  pub to : (i : ℕ) (x : JobId) (k : ℕ) → slice_get ids i ≡ Some x → Leads rows x.0 k → covered k ≡ true
  pub done : (k : ℕ) → left < k → wanted k ≡ true → covered k ≡ true

pub not_both : {b : Bool} → b ≡ true → b ≡ false → ⊥
not_both p q = cc

some_is : {A : Type 0} {x y : A} → Some x ≡ Some y → x ≡ y
some_is e = cc

none_some : {A : Type 0} {x : A} → None ≡ Some x → ⊥
none_some e = cc

-- an element of a list with one more is one of the list, or the last
snoc_cases : {A : Type 0} (xs : List A) (y : A) (i : ℕ) (z : A) → slice_get (xs ++ y ∷ []) i ≡ Some z
    → (slice_get xs i ≡ Some z) ⊎ ((i ≡ length xs) × (z ≡ y))
snoc_cases [] y zero z e = inr (refl, some_is (sym e))
snoc_cases [] y (suc i) z e = absurd (none_some e)
snoc_cases (x ∷ xs) y zero z e = inl e
snoc_cases (x ∷ xs) y (suc i) z e = ⊎_elim (λ p. inl p) (λ q. inr (ap suc q.0, q.1)) (snoc_cases xs y i z e)

get_below : {A : Type 0} (xs : List A) (p : ℕ) (z : A) → slice_get xs p ≡ Some z → p < length xs
get_below [] p z e = absurd (none_some e)
get_below (x ∷ xs) zero z e = omega arith
get_below (x ∷ xs) (suc p) z e = let lt = get_below xs p z e in omega arith

get_before : {A : Type 0} (xs ys : List A) (i : ℕ) (z : A) → slice_get xs i ≡ Some z → slice_get (xs ++ ys) i ≡ Some z
get_before [] ys i z e = absurd (none_some e)
get_before (x ∷ xs) ys zero z e = e
get_before (x ∷ xs) ys (suc i) z e = get_before xs ys i z e

get_last : {A : Type 0} (xs : List A) (x : A) → slice_get (xs ++ x ∷ []) (length xs) ≡ Some x
get_last [] x = refl
get_last (y ∷ xs) x = get_last xs x

-- nothing was looked at
pub begins : (rows : List Handle) (wanted covered : Jobs) (ids : List JobId) (left : ℕ) → ((k : ℕ) → covered k ≡ false) → ids ≡ []
    → AreUpTo left wanted → IsFound rows wanted covered ids left
begins rows wanted covered ids left none empty known = record {
  each = λ i x e. absurd (none_some (sym (ap (λ xs. slice_get xs i) empty) ∙ e));
  apart = λ i j x y lt e f. absurd (none_some (sym (ap (λ xs. slice_get xs i) empty) ∙ e));
  above = λ i x e. absurd (none_some (sym (ap (λ xs. slice_get xs i) empty) ∙ e));
  from = λ k t. absurd (not_both t (none k));
  to = λ i x k e l. absurd (none_some (sym (ap (λ xs. slice_get xs i) empty) ∙ e));
  done = λ k lt t. let most = (known k t).1 in absurd (omega arith);
}

-- a job that isn't wanted, or is covered
pub passes : (rows : List Handle) (wanted covered : Jobs) (ids : List JobId) (left less : ℕ) → IsFound rows wanted covered ids left
    → left ≡ suc less → (wanted left ≡ true → covered left ≡ true) → IsFound rows wanted covered ids less
passes rows wanted covered ids left less was next there = record {
  each = was.each;
  apart = was.apart;
  above = λ i x e. let lt = was.above i x e in omega arith;
  from = was.from;
  to = was.to;
  done = λ k lt t. ⊎_elim
      (λ same. subst (λ n. covered n ≡ true) (sym same) (there (subst (λ n. wanted n ≡ true) same t)))
      (λ other. was.done k (omega arith) t)
      (cases_eq k left);
}

-- a job that is wanted and not covered
pub takes : (rows : List Handle) (wanted covered more : Jobs) (ids new : List JobId) (left less : ℕ) (job : JobId) (row : Handle)
    → IsFound rows wanted covered ids left → left ≡ suc less → job.0 ≡ left → wanted left ≡ true → covered left ≡ false
    → slice_get rows (left - 1) ≡ Some row → jobs_of row left ≡ true
    → ((k : ℕ) → more k ≡ (covered k || jobs_of row k)) → new ≡ ids ++ job ∷ []
    → IsFound rows wanted more new less
takes rows wanted covered more ids new left less job row was next is wants free at own union pushed = record {
  each = λ i x e. ⊎_elim
      (λ old. was.each i x old)
      (λ last. subst (λ (y : JobId). wanted y.0 ≡ true) (sym last.1) (subst (λ n. wanted n ≡ true) (sym is) wants))
      (snoc_cases ids job i x (sym (ap (λ xs. slice_get xs i) pushed) ∙ e));
  apart = λ i j x y lt e f. ⊎_elim
      (λ old. ⊎_elim
      (λ first. was.apart i j x y lt first old)
      (λ last. absurd (let below = get_below ids j y old in let at_end = last.0 in omega arith))
      (snoc_cases ids job i x (sym (ap (λ xs. slice_get xs i) pushed) ∙ e)))
      (λ last. ⊎_elim
      (λ first. subst (λ (z : JobId). (z.0 < x.0) × (Leads rows x.0 z.0 → ⊥)) (sym last.1)
      (let high = was.above i x first in
      (omega arith, λ l. not_both (was.to i x left first (subst (λ n. Leads rows x.0 n) is l)) free)))
      (λ both. absurd (let a = both.0 in let b = last.0 in omega arith))
      (snoc_cases ids job i x (sym (ap (λ xs. slice_get xs i) pushed) ∙ e)))
      (snoc_cases ids job j y (sym (ap (λ xs. slice_get xs j) pushed) ∙ f));
  above = λ i x e. ⊎_elim
      (λ old. let lt = was.above i x old in omega arith)
      (λ last. subst (λ (y : JobId). less < y.0) (sym last.1) (omega arith))
      (snoc_cases ids job i x (sym (ap (λ xs. slice_get xs i) pushed) ∙ e));
  from = λ k t. ⊎_elim
      (λ old. let found = was.from k old in
      (found.0, found.1, ap (λ xs. slice_get xs found.0) pushed ∙ get_before ids (job ∷ []) found.0 found.1 found.2, found.3))
      (λ fresh. (
        length ids,
        job,
        ap (λ xs. slice_get xs (length ids)) pushed ∙ get_last ids job,
        (row, ap (λ n. slice_get rows (n - 1)) is ∙ at, fresh),
      ))
      (or_cases (covered k) (jobs_of row k) (sym (union k) ∙ t));
  to = λ i x k e l. ⊎_elim
      (λ old. union k ∙ or_left (covered k) (jobs_of row k) (was.to i x k old l))
      (λ last. union k ∙ or_right (covered k) (jobs_of row k)
      (let same : l.0 ≡ row = some_is (sym l.1 ∙ ap (λ (y : JobId). slice_get rows (y.0 - 1)) last.1 ∙ ap (λ n. slice_get rows (n - 1)) is ∙ at) in
      subst (λ r. jobs_of r k ≡ true) same l.2))
      (snoc_cases ids job i x (sym (ap (λ xs. slice_get xs i) pushed) ∙ e));
  done = λ k lt t. ⊎_elim
      (λ same. union k ∙ or_right (covered k) (jobs_of row k) (subst (λ n. jobs_of row n ≡ true) (sym same) own))
      (λ other. union k ∙ or_left (covered k) (jobs_of row k) (was.done k (omega arith) t))
      (cases_eq k left);
}
