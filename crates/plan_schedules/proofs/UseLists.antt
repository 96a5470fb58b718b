-- Lists, element by element, as loops go over them.
use Rattle.std.proofs.Common.{◌≡◌, ℕ, zero, suc, ◌+◌, ◌<◌, ◌≤◌, Bool, true, false, List, [], ◌∷◌, ◌++◌, length, get_or, drop, Some, None, refl, sym, ap, subst, ◌∙◌, arith, add-one, drop-cons, append_assoc, append-nil, ℤ}
use Rattle.std.specs.Prelude.{if◌then◌else◌}
use Rattle.job_base.specs.declared.Refusal.{Refusal}
use Rattle.frame_ast.specs.declared.kernel.Param.{Param}
use Rattle.frame_ast.specs.declared.script.Arg.{Arg}
use Rattle.frame_ast.specs.declared.script.Arg.TheVariants.{Name, Number}
use Rattle.plan_schedules.specs.declared.uses.NamedUse.{NamedUse}
use Rattle.plan_schedules.specs.Causes.{first_with}
use Rattle.plan_schedules.specs.Uses.{ForNames}

-- what is left of a list from a place on, at the element there, and past the last one
pub drop_at : {A : Type 0} (xs : List A) (i : ℕ) (x : A) → i < length xs → x ≡ get_or xs i x → drop i xs ≡ x ∷ drop (i + 1) xs
drop_at xs i x lt e = drop-cons xs i x lt ∙ (λ j. sym e j ∷ drop (sym (add-one i) j) xs)

pub drop_is : {A : Type 0} (xs : List A) (i : ℕ) (d x : A) → i < length xs → get_or xs i d ≡ x → drop i xs ≡ x ∷ drop (i + 1) xs
drop_is xs i d x lt e = drop-cons xs i d lt ∙ (λ j. e j ∷ drop (sym (add-one i) j) xs)

pub one_at : {A : Type 0} (xs : List A) (i : ℕ) → i < length xs → (x : A) × (x ≡ get_or xs i x)
one_at [] i lt = absurd (omega arith)
one_at (x ∷ xs) zero lt = (x, refl)
one_at (x ∷ xs) (suc i) lt = one_at xs i (omega arith)

pub drop_end : {A : Type 0} (xs : List A) (i : ℕ) → length xs ≤ i → drop i xs ≡ []
drop_end [] zero le = refl
drop_end [] (suc i) le = refl
drop_end (x ∷ xs) zero le = absurd (omega arith)
drop_end (x ∷ xs) (suc i) le = drop_end xs i (omega arith)

-- a use of which something is so

module _ (refusal : Refusal) (test : NamedUse → Bool) (us : List NamedUse) (i : ℕ) where
  abbrev Passed : ℕ → Type 0
  Passed k = first_with refusal test (drop k us) ≡ first_with refusal test us

  step : (u : NamedUse) → i < length us → u ≡ get_or us i u → first_with refusal test (drop i us) ≡
      (if test u then Some (record { refusal = refusal; name = u.name }) else first_with refusal test (drop (i + 1) us))
  step u lt at = ap (first_with refusal test) (drop_at us i u lt at)

  pub use_found : (u : NamedUse) → i < length us → u ≡ get_or us i u → Passed i → test u ≡ true
      → Some (record { refusal = refusal; name = u.name }) ≡ first_with refusal test us
  use_found u lt at passed is =
      ap (λ b. if b then Some (record { refusal = refusal; name = u.name }) else first_with refusal test (drop (i + 1) us)) (sym is) ∙ sym (step u lt at)
      ∙ passed

  pub use_missed : (u : NamedUse) → i < length us → u ≡ get_or us i u → Passed i → test u ≡ false → Passed (i + 1)
  use_missed u lt at passed is =
      ap (λ b. if b then Some (record { refusal = refusal; name = u.name }) else first_with refusal test (drop (i + 1) us)) (sym is) ∙ sym (step u lt at)
      ∙ passed

  pub none_found : length us ≤ i → Passed i → None ≡ first_with refusal test us
  none_found le passed = ap (first_with refusal test) (sym (drop_end us i le)) ∙ passed

-- ---- one use for each name

module _ (Is : Param → ℕ → NamedUse → Type 0) (params : List Param) (args : List Arg) (uses : List NamedUse) (i : ℕ) where
  -- what is left to be had for all of them
  abbrev pub GoesFrom : ℕ → List NamedUse → Type 0
  GoesFrom k so_far = (rest : List NamedUse) → ForNames Is (drop k params) (drop k args) rest → ForNames Is params args (so_far ++ rest)

  pub name_step : (q : Param) (n : ℕ) (u : NamedUse) → i < length args → length args ≡ length params → q ≡ get_or params i q → (d : Arg)
      → get_or args i d ≡ Name n → Is q n u
      → GoesFrom i uses → (new : List NamedUse) → new ≡ uses ++ u ∷ [] → GoesFrom (i + 1) new
  name_step q n u lt same at d is has so new e rest h =
      let below : i < length params = omega arith in
      subst (ForNames Is params args) (sym (ap (λ us. us ++ rest) e ∙ append_assoc uses (u ∷ []) rest))
      (so (u ∷ rest) (subst (λ ps. ForNames Is ps (drop i args) (u ∷ rest)) (sym (drop_at params i q below at))
      (subst (λ as_. ForNames Is (q ∷ drop (i + 1) params) as_ (u ∷ rest)) (sym (drop_is args i d (Name n) lt is)) (has, h))))

  pub number_step : (z : ℤ) → i < length args → length args ≡ length params → (d : Arg) → get_or args i d ≡ Number z
      → GoesFrom i uses → (new : List NamedUse) → new ≡ uses → GoesFrom (i + 1) new
  number_step z lt same d is so new e rest h =
      let q = one_at params i (omega arith) in
      subst (ForNames Is params args) (sym (ap (λ us. us ++ rest) e))
      (so rest (subst (λ ps. ForNames Is ps (drop i args) rest) (sym (drop_at params i q.0 (omega arith) q.1))
      (subst (λ as_. ForNames Is (q.0 ∷ drop (i + 1) params) as_ rest) (sym (drop_is args i d (Number z) lt is)) h)))

  pub names_end : length args ≤ i → length args ≡ length params → GoesFrom i uses → ForNames Is params args uses
  names_end le same so =
      let past : length params ≤ i = omega arith in
      subst (ForNames Is params args) (append-nil uses)
      (so [] (subst (λ ps. ForNames Is ps (drop i args) []) (sym (drop_end params i past)) refl))
