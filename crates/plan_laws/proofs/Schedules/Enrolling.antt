-- The pieces of a new job are in order.
use Rattle.std.proofs.Common.{◌≡◌, ◌≢◌, ℕ, zero, suc, ◌+◌, ◌-◌, ◌<◌, ◌≤◌, ◌⊎◌, inl, inr, ⊎_elim, Bool, true, false, eqb-true, eq-eqb, ◌&&◌, ◌||◌, not, List, [], ◌∷◌, ◌++◌, length, refl, sym, ap, subst, ◌∙◌, arith}
use Rattle.std.specs.Prelude.{nat_eq, nat_lt, nat_le, slice_get}
use Rattle.std.proofs.lemmas.Bool.{or_left, or_right, cases_eq, cases_lt}
use Rattle.frame_ast.specs.Jobs.{Jobs, Book, greatest, ancestors_in, happens_before, Ancestor}
use Rattle.frame_ast.specs.Conflicts.{has_pending}
use Rattle.frame_ast.specs.Laws.{IsKnown}
use Rattle.frame_ast.specs.Ranges.{has_word}
use Rattle.frame_ast.specs.States.{ScriptState, is_live}
use Rattle.frame_ast.proofs.Ancestry.{greatest_in, greatest_below, greatest_above, ancestors_are_least}
use Rattle.merge_laws.specs.Ledger as ledgers
use Rattle.merge_laws.specs.Ledger.{Ledger, IsLedger, IsFree, IsUsedBy, IsWrittenBy, AreInOrder}
use Rattle.merge_laws.specs.Planning.{IsPartOfNewest, ArePartsOfNewest, GoesOn}
use Rattle.merge_laws.proofs.Proceeding.{ledgers_keep_order}
use Rattle.merge_laws.proofs.Starting.{jobs_keep_order}
use Rattle.frame_core.specs.declared.plan.JobPlan.{JobPlan}
use Rattle.frame_core.specs.declared.plan.Plan.{Plan}
use Rattle.frame_core.specs.declared.piece.Piece.TheVariants.{OfJob}
use Rattle.frame_core.specs.Names.{job_at, has_job, deps_in, pieces_before, pieces_of as pieces_of_job}
use Rattle.frame_core.specs.Pieces.{own_word}
use Rattle.frame_core.specs.Output.{pieces_in}
use Rattle.frame_core.specs.Effects.{touches}
use Rattle.frame_core.proofs.Small.{not_both, either_bool}
use Rattle.frame_core.proofs.Extents.Touching.{writes_read}
use Rattle.plan_laws.specs.Drafts.{Draft, part_piece, parts, pieces_of}
use Rattle.plan_laws.specs.Ledgers.{Owner, Held, Own, owner, number_of, later, is_own_word, owner_live, owner_words, owner_users, owner_writers, ledger_of}
use Rattle.plan_laws.specs.Planned.{Outline, ledger_at, jobs_before, IsOrdered, IsPlanned}
use Rattle.plan_laws.specs.Enrolling.{IsOfArgument, IsEnrolled, ArePartsApart, EnrolledJobsAreInOrder}
use Rattle.plan_laws.proofs.Owners.{owner_held, owner_own, own_above, words_apart, has_is_word}
use Rattle.plan_laws.proofs.Statements.Completing.{any_true, true_any}
use Rattle.plan_laws.proofs.Statements.Making.{alive_is_live}

-- ---- sets of jobs, numbered from a section's beginning

pub later_in : (before : ℕ) (jobs : Jobs) (j : ℕ) → later before jobs j ≡ true → (0 < j) × (jobs (before + j) ≡ true)
later_in before jobs zero e = absurd (not_both e (let f : nat_lt 0 0 ≡ false = grind arith in ap (λ b. b && jobs (before + 0)) f))
later_in before jobs (suc j) e = (omega arith, sym (let f : nat_lt 0 (suc j) ≡ true = grind arith in ap (λ b. b && jobs (before + suc j)) f) ∙ e)

pub in_later : (before : ℕ) (jobs : Jobs) (j : ℕ) → 0 < j → jobs (before + j) ≡ true → later before jobs j ≡ true
in_later before jobs zero pos e = absurd (omega arith)
in_later before jobs (suc j) pos e = (let f : nat_lt 0 (suc j) ≡ true = grind arith in ap (λ b. b && jobs (before + suc j)) f) ∙ e

-- ---- own words of different jobs

pub next_before : (jobs : List JobPlan) (j : ℕ) → pieces_before jobs (suc j) ≡ pieces_before jobs j + pieces_in (slice_get jobs j)
next_before [] zero = refl
next_before [] (suc j) = refl
next_before (x ∷ jobs) zero = omega arith
next_before (x ∷ jobs) (suc j) = let e = next_before jobs j in omega arith

rising_before : (jobs : List JobPlan) (j k : ℕ) → j ≤ k → pieces_before jobs j ≤ pieces_before jobs k
rising_before jobs j zero le = let e : j ≡ 0 = omega arith in subst (λ i. pieces_before jobs i ≤ pieces_before jobs 0) (sym e) (omega arith)
rising_before jobs j (suc k) le = ⊎_elim
    (λ e. subst (λ i. pieces_before jobs i ≤ pieces_before jobs (suc k)) (sym e) (omega arith))
    (λ ne. let r = rising_before jobs j k (omega arith) in let n = next_before jobs k in omega arith)
    (cases_eq j (suc k))

-- words between two bounds
between : (lo hi w : ℕ) → (nat_le lo w && nat_lt w hi) ≡ true → (lo ≤ w) × (w < hi)
between lo hi w e = (grind arith, grind arith)

own_range : (plan : Plan) (j w : ℕ) → is_own_word plan (suc j) w ≡ true → (own_word plan j 0 ≤ w) × (w < own_word plan j (pieces_in (job_at plan j)))
own_range plan j w e = between (own_word plan j 0) (own_word plan j (pieces_in (job_at plan j))) w e

own_less : (plan : Plan) (j k w : ℕ) → j < k → is_own_word plan (suc j) w ≡ true → is_own_word plan (suc k) w ≡ true → ⊥
own_less plan j k w lt a b =
    let p = (own_range plan j w a).1 in
    let q = (own_range plan k w b).0 in
    let n = next_before plan.jobs.items j in
    let r = rising_before plan.jobs.items (suc j) k lt in
    omega arith

own_once : (plan : Plan) (j k w : ℕ) → is_own_word plan j w ≡ true → is_own_word plan k w ≡ true → j ≡ k
own_once plan zero k w a b = absurd (not_both a refl)
own_once plan (suc j) zero w a b = absurd (not_both b refl)
own_once plan (suc j) (suc k) w a b = ⊎_elim
    (λ lt. absurd (own_less plan j k w lt a b))
    (λ ge. ⊎_elim (λ lt. absurd (own_less plan k j w lt b a)) (λ le. let e : j ≡ k = omega arith in ap suc e) (cases_lt k j))
    (cases_lt j k)

module _ (x : Outline) (s t : ScriptState) (d : Draft) (job : JobPlan) (given writable : ℕ → Bool) (deps : Jobs) (known : IsKnown s)
    (was : IsPlanned x s d)
    (en : IsEnrolled x s t (length d.jobs) job given writable deps) where
  abbrev n : ℕ
  n = length d.jobs

  old : IsOrdered x s d
  old = was.ordered

  abbrev before : ℕ
  before = jobs_before x

  abbrev l : Ledger
  l = ledger_at x s d

  abbrev m : Ledger
  m = ledger_of x.plan x.starts before (suc n) t

  lt_true : (a b : ℕ) → a < b → nat_lt a b ≡ true
  lt_true a b lt = grind arith

  or_cases : (a b : Bool) → (a || b) ≡ true → (a ≡ true) ⊎ (b ≡ true)
  or_cases true b e = inl refl
  or_cases false b e = inr e

  and_both : (a b : Bool) → (a && b) ≡ true → (a ≡ true) × (b ≡ true)
  and_both true b e = (refl, e)
  and_both false b e = absurd (not_both e refl)

  both_and : {a b : Bool} → a ≡ true → b ≡ true → (a && b) ≡ true
  both_and p q = λ i. p i && q i

  -- who used a container uses it still; who uses it did so, or is the new job
  user_kept : (c k : ℕ) → (s.uses c).users k ≡ true → (t.uses c).users k ≡ true
  user_kept c k e = en.users c k ∙ or_left ((s.uses c).users k) (nat_eq k (suc s.book.count) && given c) e

  user_was : (c k : ℕ) → (t.uses c).users k ≡ true → ((s.uses c).users k ≡ true) ⊎ ((k ≡ suc s.book.count) × (given c ≡ true))
  user_was c k e = ⊎_elim (λ u. inl u) (λ u. let b = and_both (nat_eq k (suc s.book.count)) (given c) u in
      inr (eqb-true k (suc s.book.count) b.0, b.1)) (or_cases _ _ (sym (en.users c k) ∙ e))

  writer_kept : (c k : ℕ) → (s.uses c).writers k ≡ true → (t.uses c).writers k ≡ true
  writer_kept c k e = en.writers c k ∙ or_left ((s.uses c).writers k) (nat_eq k (suc s.book.count) && writable c) e

  writer_was : (c k : ℕ) → (t.uses c).writers k ≡ true → ((s.uses c).writers k ≡ true) ⊎ ((k ≡ suc s.book.count) × (writable c ≡ true))
  writer_was c k e = ⊎_elim (λ u. inl u) (λ u. let b = and_both (nat_eq k (suc s.book.count)) (writable c) u in
      inr (eqb-true k (suc s.book.count) b.0, b.1)) (or_cases _ _ (sym (en.writers c k) ∙ e))

  completed_same : t.book.completed ≡ s.book.completed
  completed_same = ap (λ (b : Book). b.completed) en.book

  count_next : t.book.count ≡ suc s.book.count
  count_next = ap (λ (b : Book). b.count) en.book

  -- a container is live as before
  alive_same : (c : ℕ) → t.alive c ≡ s.alive c
  alive_same c = ap (λ f. f c) en.alive

  pending_kept : (c : ℕ) → has_pending s.book (s.uses c) ≡ true → has_pending t.book (t.uses c) ≡ true
  pending_kept c e =
      let p : Jobs = λ j. (s.uses c).users j && not (s.book.completed j) in
      let q : Jobs = λ j. (t.uses c).users j && not (t.book.completed j) in
      let pos = any_true p s.book.count e in
      let k = greatest p s.book.count in
      let b = and_both ((s.uses c).users k) (not (s.book.completed k)) (greatest_in p s.book.count pos) in
      let is_in : q k ≡ true = both_and (user_kept c k b.0) (ap (λ f. not (f k)) completed_same ∙ b.1) in
      let below = greatest_below p s.book.count in
      let next = count_next in
      true_any q t.book.count (let above = greatest_above q t.book.count k (omega arith) is_in in omega arith)

  pending_was : (c : ℕ) → s.alive c ≡ false → has_pending t.book (t.uses c) ≡ true → has_pending s.book (s.uses c) ≡ true
  pending_was c dead e =
      let p : Jobs = λ j. (s.uses c).users j && not (s.book.completed j) in
      let q : Jobs = λ j. (t.uses c).users j && not (t.book.completed j) in
      let pos = any_true q t.book.count e in
      let k = greatest q t.book.count in
      let b = and_both ((t.uses c).users k) (not (t.book.completed k)) (greatest_in q t.book.count pos) in
      let was : (s.uses c).users k ≡ true = ⊎_elim (λ u. u) (λ u. absurd (not_both (en.used_alive c u.1).1 dead)) (user_was c k b.0) in
      let up = (known.uses c).users k was in
      true_any p s.book.count (let above = greatest_above p s.book.count k up.1 (both_and was (ap (λ f. not (f k)) (sym completed_same) ∙ b.1)) in
      let lo = up.0 in omega arith)

  live_kept : (c : ℕ) → is_live s c ≡ true → is_live t c ≡ true
  live_kept c e =
      let b = and_both (nat_lt c s.made) (s.alive c || has_pending s.book (s.uses c)) e in
      both_and (ap (nat_lt c) en.made ∙ b.0)
      (⊎_elim (λ a. or_left (t.alive c) (has_pending t.book (t.uses c)) (alive_same c ∙ a))
      (λ p. or_right (t.alive c) (has_pending t.book (t.uses c)) (pending_kept c p)) (or_cases _ _ b.1))

  pub live_was : (c : ℕ) → is_live t c ≡ true → is_live s c ≡ true
  live_was c e =
      let b = and_both (nat_lt c t.made) (t.alive c || has_pending t.book (t.uses c)) e in
      both_and (ap (nat_lt c) (sym en.made) ∙ b.0)
      (⊎_elim (λ a. or_left (s.alive c) (has_pending s.book (s.uses c)) a)
      (λ dead. or_right (s.alive c) (has_pending s.book (s.uses c)) (pending_was c dead
      (⊎_elim (λ a. absurd (not_both (sym (alive_same c) ∙ a) dead)) (λ p. p) (or_cases _ _ b.1))))
      (either_bool (s.alive c)))

  words_same : (c w : ℕ) → has_word x.starts t c w ≡ has_word x.starts s c w
  words_same c w = λ i. nat_le (x.starts (en.range i c)) w && nat_lt w (x.starts (en.range i c) + en.words c i)

  -- the ledger goes on
  owner_was : (o : Owner) → owner_live t (suc n) o ≡ true → (owner_live s n o ≡ true) ⊎ (o ≡ Own (suc n))
  owner_was (Held c) e = inl (live_was c e)
  owner_was (Own j) e =
      let b = and_both (nat_lt 0 j) (nat_le j (suc n)) e in
      let le : j ≤ suc n = grind arith in
      ⊎_elim (λ h. inr (ap Own h)) (λ ne. inl (both_and b.0 (let f : nat_le j n ≡ true = grind arith in f))) (cases_eq j (suc n))

  owner_kept : (o : Owner) → owner_live s n o ≡ true → owner_live t (suc n) o ≡ true
  owner_kept (Held c) e = live_kept c e
  owner_kept (Own j) e =
      let b = and_both (nat_lt 0 j) (nat_le j n) e in
      both_and b.0 (let le : j ≤ n = grind arith in let f : nat_le j (suc n) ≡ true = grind arith in f)

  owner_words_same : (o : Owner) (w : ℕ) → owner_words x.plan x.starts t o w ≡ owner_words x.plan x.starts s o w
  owner_words_same (Held c) w = words_same c w
  owner_words_same (Own j) w = refl

  owner_user_kept : (o : Owner) (j : ℕ) → owner_users before s o j ≡ true → owner_users before t o j ≡ true
  owner_user_kept (Held c) j e = let u = later_in before (s.uses c).users j e in in_later before (t.uses c).users j u.0 (user_kept c (before + j) u.1)
  owner_user_kept (Own i) j e = e

  owner_writer_kept : (o : Owner) (j : ℕ) → owner_writers before s o j ≡ true → owner_writers before t o j ≡ true
  owner_writer_kept (Held c) j e = let u = later_in before (s.uses c).writers j e in in_later before (t.uses c).writers j u.0 (writer_kept c (before + j) u.1)
  owner_writer_kept (Own i) j e = e

  -- dependencies
  deps_new : (j k : ℕ) → m.depends j k ≡ true → (l.depends j k ≡ true) ⊎ ((j ≡ suc n) × (later before deps k ≡ true))
  deps_new j k e =
      let u = later_in before (λ k. nat_lt 0 j && t.book.deps (before + j) k) k e in
      let b = and_both (nat_lt 0 j) (t.book.deps (before + j) (before + k)) u.1 in
      ⊎_elim
      (λ o. inl (in_later before (λ k. nat_lt 0 j && s.book.deps (before + j) k) k u.0 (both_and b.0 o)))
      (λ o. let q = and_both (nat_eq (before + j) (suc s.book.count)) (deps (before + k)) o in
      let at = eqb-true (before + j) (suc s.book.count) q.0 in
      let count = old.count in
      inr (omega arith, in_later before deps k u.0 q.1))
      (or_cases (s.book.deps (before + j) (before + k)) _ (sym (ap (λ (b : Book). b.deps (before + j) (before + k)) en.book) ∙ b.1))

  goes_on : GoesOn l m
  goes_on = record {
    jobs = omega arith;
    depends = λ j k le e. ⊎_elim (λ o. o) (λ o. let h = o.0 in absurd (omega arith)) (deps_new j k e);
    completed = λ j. ap (λ f. later before f j) completed_same;
    containers = λ c live. inr (record {
      live = owner_kept (owner c) live;
      words = λ w e. owner_words_same (owner c) w ∙ e;
      users = λ j e. owner_user_kept (owner c) j e;
      writers = λ j e. owner_writer_kept (owner c) j e;
    });
  }

  owner_number : (o : Owner) → owner (number_of o) ≡ o
  owner_number (Held c) = owner_held c
  owner_number (Own j) = owner_own j

  written : (o : Owner) (j : ℕ) → owner_writers before t o j ≡ true → owner_users before t o j ≡ true
  written (Held c) j e =
      let u = later_in before (t.uses c).writers j e in
      in_later before (t.uses c).users j u.0 (⊎_elim (λ w. user_kept c (before + j) ((known.uses c).writers (before + j) w))
      (λ w. en.users c (before + j) ∙ or_right ((s.uses c).users (before + j)) _
      (both_and (eq-eqb (before + j) (suc s.book.count) w.0) (en.writable_given c w.1))) (writer_was c (before + j) u.1))
  written (Own i) j e = e

  -- own words are no container's, and no other job's
  held_below : (c j w : ℕ) → is_live t c ≡ true → has_word x.starts t c w ≡ true → is_own_word x.plan j w ≡ true → ⊥
  held_below c j w live has own =
      let word = has_is_word x.starts s c w (sym (words_same c w) ∙ has) in
      let lt = word.below in
      let le = was.standing.within c (live_was c live) in
      let above = own_above x.plan j w own in
      omega arith

  apart : (o p : Owner) (w : ℕ) → owner_live t (suc n) o ≡ true → owner_live t (suc n) p ≡ true → owner_words x.plan x.starts t o w ≡ true
      → owner_words x.plan x.starts t p w ≡ true → number_of o ≡ number_of p
  apart (Held c) (Held e) w lo lp wo wp =
      ap (λ k. number_of (Held k)) (words_apart x.plan x.starts before n s old.ledger c e w (live_was c lo) (live_was e lp) (sym (words_same c w) ∙ wo)
      (sym (words_same e w) ∙ wp))
  apart (Held c) (Own j) w lo lp wo wp = absurd (held_below c j w lo wo wp)
  apart (Own j) (Held c) w lo lp wo wp = absurd (held_below c j w lp wp wo)
  apart (Own j) (Own k) w lo lp wo wp = ap (λ i. number_of (Own i)) (own_once x.plan j k w wo wp)

  is_m : IsLedger m
  is_m = record {
    older = λ j k e. ⊎_elim
        (λ o. let b = old.ledger.older j k o in (let le = b.0 in omega arith, b.1))
        (λ o. let u = later_in before deps k o.1 in let le = (en.deps_up (before + k) u.1).1 in let count = old.count in let at = o.0 in
        (omega arith, omega arith))
        (deps_new j k e);
    written = λ c j e. written (owner c) j e;
    apart = λ c e w lc le wc we. sym (Rattle.plan_laws.proofs.Owners.number_owner c) ∙ apart (owner c) (owner e) w lc le wc we
        ∙ Rattle.plan_laws.proofs.Owners.number_owner e;
  }

  -- who happens before the job is free
  along : {y : ℕ} → Ancestor s.book.deps deps y → before < y → ledgers.Ancestor m.depends (has_job job.deps.items) (y - before)
  along (Ancestor.own {j = y} h) lt =
      let at : before + (y - before) ≡ y = omega arith in
      ledgers.Ancestor.own (en.deps_are (y - before) ∙ in_later before deps (y - before) (omega arith) (ap deps at ∙ h))
  along (Ancestor.older {j = j} {k = y} a h) lt =
      let young = (known.book.older j y h).1.1 in
      let at : before + (y - before) ≡ y = omega arith in
      let on : before + (j - before) ≡ j = omega arith in
      let step : m.depends (j - before) (y - before) ≡ true =
      in_later before (λ k. nat_lt 0 (j - before) && t.book.deps (before + (j - before)) k) (y - before) (omega arith)
      (both_and (let f : nat_lt 0 (j - before) ≡ true = lt_true 0 (j - before) (omega arith) in f)
      (ap (λ (b : Book). b.deps (before + (j - before)) (before + (y - before))) en.book
      ∙ or_left (s.book.deps (before + (j - before)) (before + (y - before))) _ ((λ i. s.book.deps (on i) (at i)) ∙ h))) in
      ledgers.Ancestor.older (along a (omega arith)) step

  ancestor_later : (k : ℕ) → 0 < k → ancestors_in s.book deps (before + k) ≡ true → ledgers.Ancestor m.depends (has_job job.deps.items) k
  ancestor_later k pos e =
      let a = (ancestors_are_least s.book.deps s.book.count deps known.book.older (before + k)).0 e in
      let back : before + k - before ≡ k = omega arith in
      subst (ledgers.Ancestor m.depends (has_job job.deps.items)) back (along a (omega arith))

  free : (k : ℕ) → 0 < k → happens_before s.book deps (before + k) ≡ true → IsFree m (has_job job.deps.items) k
  free k pos e = ⊎_elim
      (λ c. inl (ap (λ f. later before f k) completed_same ∙ in_later before s.book.completed k pos c))
      (λ a. inr (ancestor_later k pos a))
      (or_cases (s.book.completed (before + k)) (ancestors_in s.book deps (before + k)) e)

  uses_new : (c : ℕ) → given c ≡ true → m.users (number_of (Held c)) (suc n) ≡ true
  uses_new c e = ap (λ o. owner_users before t o (suc n)) (owner_held c)
      ∙ in_later before (t.uses c).users (suc n) (omega arith) (en.users c (before + suc n)
      ∙ or_right ((s.uses c).users (before + suc n)) _ (both_and (eq-eqb (before + suc n) (suc s.book.count) (let count = old.count in omega arith)) e))

  writes_new : (c : ℕ) → writable c ≡ true → m.writers (number_of (Held c)) (suc n) ≡ true
  writes_new c e = ap (λ o. owner_writers before t o (suc n)) (owner_held c)
      ∙ in_later before (t.uses c).writers (suc n) (omega arith) (en.writers c (before + suc n)
      ∙ or_right ((s.uses c).writers (before + suc n)) _ (both_and (eq-eqb (before + suc n) (suc s.book.count) (let count = old.count in omega arith)) e))

  own_live : m.live (number_of (Own (suc n))) ≡ true
  own_live = ap (owner_live t (suc n)) (owner_own (suc n)) ∙ both_and (let f : nat_lt 0 (suc n) ≡ true = grind arith in f)
      (let f : nat_le (suc n) (suc n) ≡ true = grind arith in f)

  is_used : (w : ℕ) → (is_own_word x.plan (suc n) w ≡ true) ⊎ IsOfArgument x s given w → IsUsedBy m (suc n) w
  is_used w (inl own) = record {
    container = number_of (Own (suc n));
    live = own_live;
    word = ap (λ o. owner_words x.plan x.starts t o w) (owner_own (suc n)) ∙ own;
    user = ap (λ o. owner_users before t o (suc n)) (owner_own (suc n)) ∙ eq-eqb (suc n) (suc n) refl;
  }
  is_used w (inr a) = record {
    container = number_of (Held a.container);
    live = ap (owner_live t (suc n)) (owner_held a.container) ∙ live_kept a.container (alive_is_live s a.container a.below a.alive);
    word = ap (λ o. owner_words x.plan x.starts t o w) (owner_held a.container) ∙ words_same a.container w ∙ a.word;
    user = uses_new a.container a.is_of;
  }

  written_is : (w : ℕ) → (is_own_word x.plan (suc n) w ≡ true) ⊎ IsOfArgument x s writable w → IsWrittenBy m (suc n) w
  written_is w (inl own) = record {
    container = number_of (Own (suc n));
    live = own_live;
    word = ap (λ o. owner_words x.plan x.starts t o w) (owner_own (suc n)) ∙ own;
    writer = ap (λ o. owner_writers before t o (suc n)) (owner_own (suc n)) ∙ eq-eqb (suc n) (suc n) refl;
  }
  written_is w (inr a) = record {
    container = number_of (Held a.container);
    live = ap (owner_live t (suc n)) (owner_held a.container) ∙ live_kept a.container (alive_is_live s a.container a.below a.alive);
    word = ap (λ o. owner_words x.plan x.starts t o w) (owner_held a.container) ∙ words_same a.container w ∙ a.word;
    writer = writes_new a.container a.is_of;
  }

  -- older jobs with a conflicting use
  old_job : (k : ℕ) → k < suc n → before + k ≢ suc s.book.count
  old_job k lt e = let count = old.count in omega arith

  new_user : (c : ℕ) → (t.uses c).users (before + suc n) ≡ true → given c ≡ true
  new_user c e = ⊎_elim (λ u. let up = (known.uses c).users (before + suc n) u in let hi = up.1 in let count = old.count in absurd (omega arith)) (λ u. u.1)
      (user_was c (before + suc n) e)

  new_writer : (c : ℕ) → (t.uses c).writers (before + suc n) ≡ true → writable c ≡ true
  new_writer c e = ⊎_elim (λ u. let up = (known.uses c).users (before + suc n) ((known.uses c).writers (before + suc n) u) in let hi = up.1 in
      let count = old.count in absurd (omega arith)) (λ u. u.1) (writer_was c (before + suc n) e)

  readers_free : (o : Owner) (k : ℕ) → owner_users before t o (suc n) ≡ true → owner_writers before t o k ≡ true → k < suc n
      → IsFree m (has_job job.deps.items) k
  readers_free (Held c) k u w lt =
      let a = later_in before (t.uses c).users (suc n) u in
      let b = later_in before (t.uses c).writers k w in
      free k b.0 (en.readers c (before + k) (new_user c a.1) (⊎_elim (λ h. h) (λ h. absurd (old_job k lt h.0)) (writer_was c (before + k) b.1)))
  readers_free (Own j) k u w lt = let a = eqb-true (suc n) j u in let b = eqb-true k j w in absurd (omega arith)

  writers_free : (o : Owner) (k : ℕ) → owner_writers before t o (suc n) ≡ true → owner_users before t o k ≡ true → k < suc n
      → IsFree m (has_job job.deps.items) k
  writers_free (Held c) k u w lt =
      let a = later_in before (t.uses c).writers (suc n) u in
      let b = later_in before (t.uses c).users k w in
      free k b.0 (en.writers_too c (before + k) (new_writer c a.1) (⊎_elim (λ h. h) (λ h. absurd (old_job k lt h.0)) (user_was c (before + k) b.1)))
  writers_free (Own j) k u w lt = let a = eqb-true (suc n) j u in let b = eqb-true k j w in absurd (omega arith)

  uncompleted : m.completed (suc n) ≡ false
  uncompleted = ⊎_elim
      (λ e. let u = later_in before t.book.completed (suc n) e in let up =
      known.book.completed (before + suc n) (ap (λ f. f (before + suc n)) (sym completed_same) ∙ u.1) in let hi = up.1 in let count = old.count in
      absurd (omega arith))
      (λ e. e)
      (either_bool (later before t.book.completed (suc n)))

  part_is : (i : ℕ) → i < pieces_of_job job → IsPartOfNewest m (part_piece x.plan n i)
  part_is i lt =
      let after_is : has_job (deps_in (job_at x.plan n)) ≡ has_job job.deps.items = ap (λ o. has_job (deps_in o)) en.has in
      record {
        job = refl;
        is_job = omega arith;
        uncompleted = uncompleted;
        after = λ k e. ap (λ f. f k) after_is ∙ en.deps_are k ∙ ⊎_elim (λ o. let le = (old.ledger.older (suc n) k o).0 in absurd (omega arith)) (λ o. o.1)
            (deps_new (suc n) k e);
        after_older = λ k e. let u = later_in before deps k (sym (en.deps_are k) ∙ sym (ap (λ f. f k) after_is) ∙ e) in
            let le = (en.deps_up (before + k) u.1).1 in let count = old.count in omega arith;
        reads = λ w e. is_used w (en.reads i w lt e);
        writes = λ w e. written_is w (en.writes i w lt e);
        reads_written = λ w e. writes_read (touches x.plan (OfJob n i)) w e;
        writers_free = λ c k lc u w lt'. subst (λ f. IsFree m f k) (sym after_is) (readers_free (owner c) k u w lt');
        users_free = λ c k lc u w lt'. subst (λ f. IsFree m f k) (sym after_is) (writers_free (owner c) k u w lt');
      }

  all_parts : (k : ℕ) → k ≤ pieces_of_job job → ArePartsApart x n k → ArePartsOfNewest m (parts x.plan n k)
  all_parts zero le a = tt
  all_parts (suc k) le a = (part_is k (omega arith), a k (omega arith), all_parts k (omega arith) (λ i lt. a i (omega arith)))

  in_order : (k : ℕ) → k ≤ pieces_of_job job → ArePartsApart x n k → AreInOrder m (parts x.plan n k ++ pieces_of x.plan d)
  in_order k le a = jobs_keep_order m (pieces_of x.plan d) (parts x.plan n k) is_m (ledgers_keep_order l m (pieces_of x.plan d) old.ledger old.pieces goes_on)
      (λ j pos lt. old.parts j pos (omega arith))
      (λ p lt. let le = old.pieces.known p lt in omega arith)
      (all_parts k le a)

pub enrolled_jobs_are_in_order : EnrolledJobsAreInOrder
enrolled_jobs_are_in_order x s t d job given writable deps k known was en le apart_ =
    (is_m x s t d job given writable deps known was en, in_order x s t d job given writable deps known was en k le apart_)
