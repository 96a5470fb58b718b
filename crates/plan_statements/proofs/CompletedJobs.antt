-- Jobs become completed: the ranges that were held for them come back, and what follows waits for those that are newly
-- completed.
use Rattle.std.proofs.Common.{◌≡◌, ℕ, zero, suc, ◌+◌, ◌-◌, ◌<◌, ◌≤◌, ⊎_elim, Bool, true, false, eq-eqb, ne_eqb, ◌&&◌, ◌||◌, not, List, [], ◌∷◌, ◌++◌, length, Option, None, Some, refl, sym, ap, ◌∙◌, arith, append-nil}
use Rattle.std.specs.Prelude.{nat_eq, if◌then◌else◌}
use Rattle.std.specs.List.{All}
use Rattle.std.specs.Option.{is_some}
use Rattle.std.proofs.lemmas.Bool.{cases_eq, or_left}
use Rattle.job_base.specs.declared.JobId.{JobId}
use Rattle.frame_ast.specs.Conflicts.{has_pending}
use Rattle.frame_ast.specs.Effects.{complete}
use Rattle.frame_ast.specs.Jobs.{Jobs, Book, ancestors_in, with_completed}
use Rattle.frame_ast.specs.Laws.{AreUpTo, IsBook, AreUses, IsKnown}
use Rattle.frame_ast.specs.States.{ScriptState}
use Rattle.frame_ast.proofs.Known.{completed_book}
use Rattle.slot_store.specs.Stores.{place_of, settled}
use Rattle.job_handle.specs.Books.{StandsFor, count_of}
use Rattle.job_handle.specs.Sets.{outside, IsNext}
use Rattle.safety_handle.specs.Entries.{state_of}
use Rattle.safety_handle.proofs.Latest.{completed_stands}
use Rattle.frame_core.specs.Names.{has_job}
use Rattle.frame_core.specs.Ordered.{IsAbove}
use Rattle.frame_core.proofs.Small.{not_both, either_bool}
use Rattle.plan_laws.specs.Planned.{AreJobsUpTo}
use Rattle.plan_state.specs.declared.state.World.{World}
use Rattle.plan_statements.specs.Completions.{newly_of, AreEnded}
use Rattle.plan_state.specs.Growth.{rising_jobs}
use Rattle.plan_state.specs.Stands.{IsHeldFor, AreContainers}
use Rattle.plan_statements.proofs.Endings.Ending.{ended}
use Rattle.plan_statements.proofs.Endings.Settling.{AreBetween, are_ended, none_pending, all_done}

-- ---- the jobs of a set in rising order

pub has_append : (xs ys : List JobId) (j : ℕ) → has_job (xs ++ ys) j ≡ (has_job xs j || has_job ys j)
has_append [] ys j = refl
has_append (x ∷ xs) ys j = ap (λ b. nat_eq x.0 j || b) (has_append xs ys j) ∙ or_assoc (nat_eq x.0 j) (has_job xs j) (has_job ys j)
  where
    or_assoc : (a b c : Bool) → (a || (b || c)) ≡ ((a || b) || c)
    or_assoc true b c = refl
    or_assoc false b c = refl

module _ (set : Jobs) where
  last : (n : ℕ) → List JobId
  last n = if set (suc n) then record { 0 = suc n } ∷ [] else []

  one_has : (n j : ℕ) (b : Bool) → has_job (if b then record { 0 = suc n } ∷ [] else []) j ≡ (b && nat_eq (suc n) j)
  one_has n j true = by (nat_eq (suc n) j)
    where
      by : (c : Bool) → (c || false) ≡ c
      by true = refl
      by false = refl
  one_has n j false = refl

  -- those after the first n aren't there
  pub has_none : (n j : ℕ) → n < j → has_job (rising_jobs set n) j ≡ false
  has_none zero j lt = refl
  has_none (suc n) j lt =
      has_append (rising_jobs set n) (if set (suc n) then record { 0 = suc n } ∷ [] else []) j
      ∙ (let first = has_none n j (omega arith) in
      let rest = one_has n j (set (suc n)) ∙ ap (λ b. set (suc n) && b) (ne_eqb (suc n) j (λ e. omega arith)) ∙ and_false (set (suc n)) in
      λ i. first i || rest i)
    where
      and_false : (b : Bool) → (b && false) ≡ false
      and_false true = refl
      and_false false = refl

  pub has_set : (n j : ℕ) → 0 < j → j ≤ n → has_job (rising_jobs set n) j ≡ set j
  has_set zero j pos le = absurd (omega arith)
  has_set (suc n) j pos le =
      has_append (rising_jobs set n) (if set (suc n) then record { 0 = suc n } ∷ [] else []) j
      ∙ ⊎_elim
      (λ e. (let first = has_none n j (omega arith) in
      let rest = one_has n j (set (suc n)) ∙ ap (λ b. set (suc n) && b) (eq-eqb (suc n) j (sym e)) ∙ and_true (set (suc n)) ∙ ap set (sym e) in
      λ i. first i || rest i))
      (λ ne. (let first = has_set n j pos (omega arith) in
      let rest = one_has n j (set (suc n)) ∙ ap (λ b. set (suc n) && b) (ne_eqb (suc n) j (λ e. ne (sym e))) ∙ and_false (set (suc n)) in
      λ i. first i || rest i) ∙ or_false (set j))
      (cases_eq j (suc n))
    where
      and_true : (b : Bool) → (b && true) ≡ b
      and_true true = refl
      and_true false = refl

      and_false : (b : Bool) → (b && false) ≡ false
      and_false true = refl
      and_false false = refl

      or_false : (b : Bool) → (b || false) ≡ b
      or_false true = refl
      or_false false = refl

  -- each is above those before it
  abbrev AreBelow : ℕ → List JobId → Type 0
  AreBelow n [] = Unit {0}
  AreBelow n (id ∷ more) = (id.0 ≤ n) × AreBelow n more

  below_more : (n m : ℕ) (ids : List JobId) → n ≤ m → AreBelow n ids → AreBelow m ids
  below_more n m [] le b = tt
  below_more n m (id ∷ more) le b = (let l = b.0 in omega arith, below_more n m more le b.1)

  below_append : (n : ℕ) (xs ys : List JobId) → AreBelow n xs → AreBelow n ys → AreBelow n (xs ++ ys)
  below_append n [] ys a b = b
  below_append n (x ∷ xs) ys a b = (a.0, below_append n xs ys a.1 b)

  above_append : (n m : ℕ) (xs ys : List JobId) → n ≤ m → IsAbove n xs → AreBelow m xs → IsAbove m ys → IsAbove n (xs ++ ys)
  above_append n m [] [] le a b c = tt
  above_append n m [] (y ∷ ys) le a b c = (let l = c.0 in omega arith, c.1)
  above_append n m (x ∷ xs) ys le a b c = (a.0, above_append x.0 m xs ys b.0 a.1 b.1 c)

  one_below : (n : ℕ) (b : Bool) → AreBelow (suc n) (if b then record { 0 = suc n } ∷ [] else [])
  one_below n true = (omega arith, tt)
  one_below n false = tt

  one_above : (n : ℕ) (b : Bool) → IsAbove n (if b then record { 0 = suc n } ∷ [] else [])
  one_above n true = (omega arith, tt)
  one_above n false = tt

  are_below : (n : ℕ) → AreBelow n (rising_jobs set n)
  are_below zero = tt
  are_below (suc n) = below_append (suc n) (rising_jobs set n) (if set (suc n) then record { 0 = suc n } ∷ [] else [])
      (below_more n (suc n) (rising_jobs set n) (omega arith) (are_below n)) (one_below n (set (suc n)))

  are_above : (n : ℕ) → IsAbove 0 (rising_jobs set n)
  are_above zero = tt
  are_above (suc n) = above_append 0 n (rising_jobs set n) (if set (suc n) then record { 0 = suc n } ∷ [] else []) (omega arith) (are_above n) (are_below n)
      (one_above n (set (suc n)))

  each_below : (n : ℕ) (ids : List JobId) → AreBelow n ids → All (λ (id : JobId). id.0 ≤ n) ids
  each_below n [] b k d lt = absurd (omega arith)
  each_below n (id ∷ more) b zero d lt = b.0
  each_below n (id ∷ more) b (suc k) d lt = each_below n more b.1 k d (omega arith)

  pub rising_up_to : (n : ℕ) → AreJobsUpTo n (rising_jobs set n)
  rising_up_to n = (are_above n, each_below n (rising_jobs set n) (are_below n))

-- ---- as the code finds them

module _ (set : Jobs) (at : ℕ) where
  next_is : rising_jobs set (at + 1) ≡ rising_jobs set (suc at)
  next_is = (let e : at + 1 ≡ suc at = omega arith in ap (rising_jobs set) e)

  pub one_more : (ids new : List JobId) → ids ≡ rising_jobs set at → set (suc at) ≡ true → new ≡ ids ++ record { 0 = at + 1 } ∷ []
      → new ≡ rising_jobs set (at + 1)
  one_more ids new was is more =
      more
      ∙ (let e : at + 1 ≡ suc at = omega arith in let id : ℕ → JobId = λ n. record { 0 = n } in λ i. was i ++ id (e i) ∷ [])
      ∙ ap (λ b. rising_jobs set at ++ (if b then record { 0 = suc at } ∷ [] else [])) (sym is)
      ∙ sym next_is

  pub none_more : (ids : List JobId) → ids ≡ rising_jobs set at → set (suc at) ≡ false → ids ≡ rising_jobs set (at + 1)
  none_more ids was is =
      was ∙ sym (append-nil (rising_jobs set at)) ∙ ap (λ b. rising_jobs set at ++ (if b then record { 0 = suc at } ∷ [] else [])) (sym is) ∙ sym next_is

-- Where a set has none of some numbers, these add nothing.
pub none_to : (set : Jobs) (m n : ℕ) → m ≤ n → ((k : ℕ) → m < k → k ≤ n → set k ≡ false) → rising_jobs set n ≡ rising_jobs set m
none_to set m zero le none = let z : 0 ≡ m = omega arith in ap (rising_jobs set) z
none_to set m (suc n) le none = ⊎_elim
    (λ same. ap (rising_jobs set) (sym same))
    (λ less. sym (none_more set n (rising_jobs set n) refl (none (suc n) (omega arith) (omega arith))
    ∙ (let e : n + 1 ≡ suc n = omega arith in ap (rising_jobs set) e))
    ∙ none_to set m n (omega arith) (λ k low high. none k low (omega arith)))
    (cases_eq m (suc n))

module _ (b : Book) (before : ℕ) (all : Jobs) where
  -- the jobs of a set that aren't completed, by their own numbers
  abbrev pub open_of : Jobs
  open_of j = all j && not (b.completed j)

  moved : (k j : ℕ) → before + k ≡ j → newly_of b before all k ≡ open_of j
  moved k j e = ap open_of e

  -- none of a set between two numbers, and then one
  pub next_to : (at j : ℕ) → before ≤ at → at < j → open_of j ≡ true → ((k : ℕ) → at < k → k < j → open_of k ≡ false)
      → (ids new : List JobId) → ids ≡ rising_jobs (newly_of b before all) (at - before) → new ≡ ids ++ record { 0 = j - before } ∷ []
      → new ≡ rising_jobs (newly_of b before all) (j - before)
  next_to at j le lt is none ids new was more =
      let set : Jobs = newly_of b before all in
      let n : ℕ = j - before - 1 in
      let up : n + 1 ≡ j - before = omega arith in
      let here : before + suc n ≡ j = omega arith in
      let skipped = none_to set (at - before) n (omega arith)
      (λ k low high. moved k (before + k) refl ∙ none (before + k) (omega arith) (omega arith)) in
      let id : ℕ → JobId = λ m. record { 0 = m } in
      one_more set n ids new (was ∙ sym skipped) (moved (suc n) j here ∙ is) (more ∙ ap (λ m. ids ++ id m ∷ []) (sym up))
      ∙ ap (rising_jobs set) up

  -- none any more
  pub none_left : (at count : ℕ) → before ≤ at → at ≤ count → ((k : ℕ) → at < k → k ≤ count → open_of k ≡ false)
      → (ids : List JobId) → ids ≡ rising_jobs (newly_of b before all) (at - before) → ids ≡ rising_jobs (newly_of b before all) (count - before)
  none_left at count le few none ids was =
      was ∙ sym (none_to (newly_of b before all) (at - before) (count - before) (omega arith)
      (λ k low high. moved k (before + k) refl ∙ none (before + k) (omega arith) (omega arith)))

-- Where the code finds none of a set that is open, all of this section are completed.
pub ended_by : (w : World) (handle : Jobs) (next : Option JobId)
    → ((b : Book) → StandsFor w.jobs b → IsNext (outside handle b.completed) w.jobs_before (count_of w.jobs) next)
    → is_some next ≡ false → AreEnded w handle
ended_by w handle None is e b stands j low high has = by (handle j) (b.completed j) has (is b stands j low high)
  where
    by : (a c : Bool) → a ≡ true → (a && not c) ≡ false → c ≡ true
    by a true e f = refl
    by true false e f = absurd (not_both refl f)
    by false false e f = absurd (not_both e refl)
ended_by w handle (Some first) is e b stands j low high has = absurd (not_both refl e)

pub newly_set : (b : Book) (w : World) (handle all : Jobs) → ((k : ℕ) → all k ≡ ancestors_in b handle k) → (ids : List JobId)
    → ids ≡ rising_jobs (newly_of b w.jobs_before all) (count_of w.jobs - w.jobs_before)
    → ids ≡ rising_jobs (newly_of b w.jobs_before (ancestors_in b handle)) (count_of w.jobs - w.jobs_before)
newly_set b w handle all same ids e = e ∙ (let path : all ≡ ancestors_in b handle = λ i k. same k i in
    ap (λ f. rising_jobs (newly_of b w.jobs_before f) (count_of w.jobs - w.jobs_before)) path)

-- ---- the containers

module _ (v w : World) (s : ScriptState) (found : List ℕ) (handle : Jobs) (was : AreContainers v s found) (known : IsKnown s)
    (up : AreUpTo s.book.count handle)
    (containers : w.containers ≡ v.containers) (names : length w.values.items ≡ length v.values.items)
    (safety : w.safety ≡ v.safety)
    (places : (k : ℕ) → place_of w.store k ≡ settled (with_completed s.book handle) (place_of v.store k)) where
  abbrev book : Book
  book = with_completed s.book handle

  abbrev t : ScriptState
  t = complete handle s

  book_known : IsBook book
  book_known = completed_book s.book known.book handle up

  uses_known : (c : ℕ) → AreUses book (s.uses c)
  uses_known c = let u = known.uses c in record { users = u.users; writers = u.writers }

  less_pending : (c : ℕ) → has_pending book (s.uses c) ≡ true → has_pending s.book (s.uses c) ≡ true
  less_pending c e = ⊎_elim (λ h. h)
      (λ none. absurd (not_both e (all_done book (s.uses c).users (λ j u.
      or_left (s.book.completed j) (ancestors_in s.book handle j) (none_pending s.book (s.uses c).users (known.uses c).users none j u)))))
      (either_bool (has_pending s.book (s.uses c)))

  still_held : (state : Rattle.slot_store.specs.declared.place.State.State) (c : ℕ) → IsHeldFor s.book state (s.uses c) → IsHeldFor book state (s.uses c)
  still_held state c h = record { held = h.held; latest = h.latest; stands = completed_stands s.book h.latest (s.uses c) h.stands handle; users = h.users }

  between : AreBetween v w s t (place_of v.store)
  between = record {
    used = λ k u. u;
    rising = λ k. omega arith;
    low = was.versions;
    current = λ k tag e. ap (λ (b : Rattle.safety_handle.specs.declared.book.SafetyBook.SafetyBook). Rattle.safety_handle.specs.Checks.is_current
        (state_of b k) tag) safety ∙ e;
    stays = λ c it has a. (refl, ap (λ (b : Rattle.safety_handle.specs.declared.book.SafetyBook.SafetyBook). state_of b it.slot.0) safety);
    ended = λ c it has a d. absurd (not_both a d);
    held = λ c it has d live. (still_held (place_of v.store it.slot.0).state c ((was.each c it has).held d live), refl);
  }

  pub completed_stand : AreContainers w t found
  completed_stand =
      ended v w s found s.alive book s.frame s.values s.lines was containers names (λ c lt a. a) less_pending
      (λ l u h. completed_stands s.book l u h handle)
      (are_ended v w s found s.alive book s.frame s.values s.lines was (λ c a. a) less_pending book_known uses_known
      (place_of v.store) between places)
