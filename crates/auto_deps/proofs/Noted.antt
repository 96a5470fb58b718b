-- The jobs that the safety book keeps, where each of them is in the book of jobs.
use Rattle.std.proofs.Common.{◌≡◌, ◌≢◌, ℕ, ◌<◌, ◌≤◌, ⊎_elim, Bool, true, false, ◌&&◌, ◌||◌, List, [], ◌∷◌, Result, is_ok, refl, ap, subst, arith}
use Rattle.std.specs.Prelude.{nat_eq, nat_lt}
use Rattle.std.proofs.lemmas.Bool.{or_left, or_right, or_cases, and_parts, and_from, eqb-true, ltb-true, cases_eq, cases_Bool}
use Rattle.job_base.specs.declared.Access.{Access}
use Rattle.frame_ast.specs.Jobs.{Jobs}
use Rattle.frame_ast.specs.Laws.{AreUpTo}
use Rattle.frame_ast.specs.Schedules.{writes_to}
use Rattle.job_handle.specs.declared.book.JobBook.{JobBook}
use Rattle.job_handle.proofs.Booleans.{not_both}
use Rattle.safety_handle.specs.declared.tag.Tag.{Tag}
use Rattle.safety_handle.specs.declared.tag.Blocked.{Blocked}
use Rattle.safety_handle.specs.declared.book.SafetyBook.{SafetyBook}
use Rattle.safety_handle.specs.Uses.{Latest, no_use, users_of, noted_read, noted_write}
use Rattle.safety_handle.specs.Entries.{SlotState, state_of, no_state, fresh, conflicting_in}
use Rattle.safety_handle.specs.Checks.{is_current, IsAnswer}
use Rattle.auto_deps.specs.Needs.{conflicting_with, AreNoted}

-- WHAT CONFLICTS

is_user : (l : Latest) (writes : Bool) (k : ℕ) → conflicting_in l writes k ≡ true → users_of l k ≡ true
is_user l writes k t =
    let p = and_parts (nat_lt 0 k) (nat_eq k l.writer || (writes && l.readers k)) t in
    and_from (nat_lt 0 k) (nat_eq k l.writer || l.readers k) p.0
    (⊎_elim
    (λ q. or_left (nat_eq k l.writer) (l.readers k) q)
    (λ r. or_right (nat_eq k l.writer) (l.readers k) (and_parts writes (l.readers k) r).1)
    (or_cases (nat_eq k l.writer) (writes && l.readers k) p.1))

pub conflicting_known : (n : ℕ) (book : SafetyBook) → AreNoted n book → (uses : List (Tag × Access)) → AreUpTo n (conflicting_with book uses)
conflicting_known n book N [] k t = absurd (not_both t refl)
conflicting_known n book N (x ∷ more) k t =
    let l = (state_of book x.0.slot.0).latest in
    ⊎_elim
    (λ a. N x.0.slot.0 k (is_user l (writes_to x.1) k a))
    (λ a. conflicting_known n book N more k a)
    (or_cases (conflicting_in l (writes_to x.1) k) (conflicting_with book more k) t)

-- MORE JOBS, AND OTHER NOTES

pub still_noted : (n m : ℕ) (book : SafetyBook) → n ≤ m → AreNoted n book → AreNoted m book
still_noted n m book le N slot k t = let r = N slot k t in let high = r.1 in (r.0, omega arith)

-- one slot is changed
changed : (n : ℕ) (old new : SafetyBook) (s : ℕ) → AreNoted n old → AreUpTo n (users_of (state_of new s).latest)
    → ((k : ℕ) → k ≢ s → state_of new k ≡ state_of old k) → AreNoted n new
changed n old new s N here others slot k t = ⊎_elim
    (λ q. here k (subst (λ x. users_of (state_of new x).latest k ≡ true) q t))
    (λ ne. N slot k (subst (λ (x : SlotState). users_of x.latest k ≡ true) (others slot ne) t))
    (cases_eq slot s)

no_user : (k : ℕ) → users_of no_use k ≡ true → ⊥
no_user k t =
    let p = and_parts (nat_lt 0 k) (nat_eq k 0 || false) t in
    let low = ltb-true 0 k p.0 in
    ⊎_elim (λ q. let z = eqb-true k 0 q in absurd (omega arith)) (λ f. not_both f refl) (or_cases (nat_eq k 0) false p.1)

pub none_noted : (n : ℕ) (book : SafetyBook) → ((k : ℕ) → state_of book k ≡ no_state) → AreNoted n book
none_noted n book e slot k t = absurd (no_user k (subst (λ (x : SlotState). users_of x.latest k ≡ true) (e slot) t))

pub enrolled : (n : ℕ) (old new : SafetyBook) (s version : ℕ) → AreNoted n old → state_of new s ≡ fresh version
    → ((k : ℕ) → k ≢ s → state_of new k ≡ state_of old k) → AreNoted n new
enrolled n old new s version N e others = changed n old new s N (λ k t. absurd (no_user k (subst (λ (x : SlotState). users_of x.latest k ≡ true) e t))) others

module _ (n j : ℕ) (old new : SafetyBook) (s : ℕ) (N : AreNoted n old) (low : 0 < j) (high : j ≤ n)
    (others : (k : ℕ) → k ≢ s → state_of new k ≡ state_of old k) where
  abbrev l : Latest
  l = (state_of old s).latest

  pub write_noted : (state_of new s).latest ≡ noted_write l j → AreNoted n new
  write_noted e = changed n old new s N (λ k t.
      let p = and_parts (nat_lt 0 k) (nat_eq k j || false) (subst (λ (x : Latest). users_of x k ≡ true) e t) in
      ⊎_elim (λ q. let same = eqb-true k j q in (omega arith, omega arith)) (λ f. absurd (not_both f refl)) (or_cases (nat_eq k j) false p.1)) others

  pub read_noted : (state_of new s).latest ≡ noted_read l j → AreNoted n new
  read_noted e = changed n old new s N (λ k t.
      let p = and_parts (nat_lt 0 k) (nat_eq k l.writer || (l.readers k || nat_eq k j)) (subst (λ (x : Latest). users_of x k ≡ true) e t) in
      ⊎_elim
      (λ q. N s k (and_from (nat_lt 0 k) (nat_eq k l.writer || l.readers k) p.0 (or_left (nat_eq k l.writer) (l.readers k) q)))
      (λ r. ⊎_elim
      (λ a. N s k (and_from (nat_lt 0 k) (nat_eq k l.writer || l.readers k) p.0 (or_right (nat_eq k l.writer) (l.readers k) a)))
      (λ q. let same = eqb-true k j q in (omega arith, omega arith))
      (or_cases (l.readers k) (nat_eq k j) r))
      (or_cases (nat_eq k l.writer) (l.readers k || nat_eq k j) p.1)) others

-- where a check answers Ok, the container is there
pub live_if_ok : (s : SlotState) (tag : Tag) (jobs : JobBook) (after : Jobs) (writes : Bool) (r : Result (Unit {0}) Blocked)
    → IsAnswer s tag jobs after writes r → is_ok r ≡ true → s.live ≡ true
live_if_ok s tag jobs after writes r A ok = ⊎_elim
    (λ t. (and_parts s.live (nat_eq s.version tag.version.0) t).0)
    (λ f. absurd (not_both ok (ap (λ x. is_ok x) (A.disposed.1 f))))
    (cases_Bool (is_current s tag))
