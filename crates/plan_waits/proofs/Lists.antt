-- Elements of lists, and sets of jobs as lists.
use Rattle.std.proofs.Common.{◌≡◌, ℕ, zero, suc, ◌+◌, ◌-◌, ◌<◌, ◌≤◌, ◌⊎◌, inl, inr, ⊎_elim, Bool, true, false, ◌||◌, List, [], ◌∷◌, ◌++◌, length, map, get_or, drop, drop-cons, eqb, eq-eqb, eqb-true, All, Option, Some, None, refl, sym, ap, subst, ◌∙◌, arith}
use Rattle.std.specs.Prelude.{slice_get}
use Rattle.job_base.specs.declared.JobId.{JobId}
use Rattle.frame_ast.specs.Jobs.{Jobs}
use Rattle.frame_core.specs.Names.{has_job}
use Rattle.job_handle.proofs.Booleans.{same_test}
use Rattle.frame_core.proofs.Small.{not_both, some_is, none_some}

pub right : (a b : Bool) → b ≡ true → (a || b) ≡ true
right true b t = refl
right false b t = t

pub left : (a b : Bool) → a ≡ true → (a || b) ≡ true
left a b t = ap (λ x. x || b) t

-- an element of a list that each element was turned into
pub get_map : {A B : Type 0} (f : A → B) (xs : List A) (i : ℕ) (y : B) → slice_get (map f xs) i ≡ Some y
    → (x : A) × (slice_get xs i ≡ Some x) × (y ≡ f x)
get_map f [] i y e = absurd (none_some e)
get_map f (x ∷ xs) zero y e = (x, refl, some_is (sym e))
get_map f (x ∷ xs) (suc i) y e = get_map f xs i y e

pub map_get : {A B : Type 0} (f : A → B) (xs : List A) (i : ℕ) (x : A) → slice_get xs i ≡ Some x → slice_get (map f xs) i ≡ Some (f x)
map_get f [] i x e = absurd (none_some e)
map_get f (y ∷ xs) zero x e = ap (λ o. Some (f o)) (some_is e)
map_get f (y ∷ xs) (suc i) x e = map_get f xs i x e

-- an element of a list with one more is one of the list, or the last
pub snoc_cases : {A : Type 0} (xs : List A) (y : A) (i : ℕ) (z : A) → slice_get (xs ++ y ∷ []) i ≡ Some z
    → (slice_get xs i ≡ Some z) ⊎ ((i ≡ length xs) × (z ≡ y))
snoc_cases [] y zero z e = inr (refl, some_is (sym e))
snoc_cases [] y (suc i) z e = absurd (none_some e)
snoc_cases (x ∷ xs) y zero z e = inl e
snoc_cases (x ∷ xs) y (suc i) z e = ⊎_elim (λ p. inl p) (λ q. inr (ap suc q.0, q.1)) (snoc_cases xs y i z e)

pub get_there : {A : Type 0} (xs : List A) (i : ℕ) → i < length xs → (x : A) × (slice_get xs i ≡ Some x)
get_there [] i lt = absurd (omega arith)
get_there (x ∷ xs) zero lt = (x, refl)
get_there (x ∷ xs) (suc i) lt = get_there xs i (omega arith)

pub or_of_get : {A : Type 0} (xs : List A) (i : ℕ) (d x : A) → slice_get xs i ≡ Some x → get_or xs i d ≡ x
or_of_get [] i d x e = absurd (none_some e)
or_of_get (y ∷ xs) zero d x e = some_is e
or_of_get (y ∷ xs) (suc i) d x e = or_of_get xs i d x e

-- what holds of each job by its number holds of each of the list
pub all_by : (P : ℕ → Type 0) (ids : List JobId) → ((n : ℕ) → has_job ids n ≡ true → P n) → All (λ (id : JobId). P id.0) ids
all_by P [] h k d lt = absurd (omega arith)
all_by P (id ∷ more) h zero d lt = h id.0 (left (eqb id.0 id.0) (has_job more id.0) (eq-eqb id.0 id.0 refl))
all_by P (id ∷ more) h (suc k) d lt = all_by P more (λ n t. h n (right (eqb id.0 n) (has_job more n) t)) k d (omega arith)

eqb_turned : (a b : ℕ) → eqb a b ≡ eqb b a
eqb_turned a b = same_test (eqb a b) (eqb b a) (λ t. eq-eqb b a (sym (eqb-true a b t))) (λ t. eq-eqb a b (sym (eqb-true b a t)))

or_step : (a b c d : Bool) → b ≡ d → (a || (b || c)) ≡ ((a || d) || c)
or_step true b c d e = refl
or_step false b c d e = ap (λ x. x || c) e

pub or_none : (a : Bool) → (a || false) ≡ a
or_none true = refl
or_none false = refl

-- a set as far as a list was gone through: with the rest of the list it is what it is to be
pub record IsOn (set start : Jobs) (rest all : List JobId) : Type 0 where
  pub same : (n : ℕ) → (set n || has_job rest n) ≡ (start n || has_job all n)

on_by : (set start next : Jobs) (id : JobId) (rest all : List JobId) → ((n : ℕ) → next n ≡ (set n || eqb n id.0)) → IsOn set start (id ∷ rest) all
    → IsOn next start rest all
on_by set start next id rest all e h = record {
  same = λ n. ap (λ x. x || has_job rest n) (e n)
      ∙ (sym (or_step (set n) (eqb id.0 n) (has_job rest n) (eqb n id.0) (eqb_turned id.0 n)) ∙ h.same n);
}

pub on_step : (set start next : Jobs) (jobs : List JobId) (i : ℕ) (d : JobId) → i < length jobs
    → ((n : ℕ) → next n ≡ (set n || eqb n (get_or jobs i d).0)) → IsOn set start (drop i jobs) jobs → IsOn next start (drop (i + 1) jobs) jobs
on_step set start next jobs i d lt e h =
    let cut : drop i jobs ≡ get_or jobs i d ∷ drop (suc i) jobs = drop-cons jobs i d lt in
    let up : suc i ≡ i + 1 = omega arith in
    subst (λ k. IsOn next start (drop k jobs) jobs) up (on_by set start next (get_or jobs i d) (drop (suc i) jobs) jobs e
    (subst (λ xs. IsOn set start xs jobs) cut h))

pub drop_all : {A : Type 0} (xs : List A) (i : ℕ) → length xs ≤ i → drop i xs ≡ []
drop_all [] zero le = refl
drop_all [] (suc i) le = refl
drop_all (x ∷ xs) zero le = absurd (omega arith)
drop_all (x ∷ xs) (suc i) le = drop_all xs i (omega arith)

pub on_ends : (set start : Jobs) (jobs : List JobId) (i : ℕ) → length jobs ≤ i → IsOn set start (drop i jobs) jobs
    → (n : ℕ) → set n ≡ (start n || has_job jobs n)
on_ends set start jobs i le h n = sym (or_none (set n)) ∙ (ap (λ xs. set n || has_job xs n) (sym (drop_all jobs i le)) ∙ h.same n)
