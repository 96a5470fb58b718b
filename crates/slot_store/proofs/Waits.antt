-- For which jobs held slots wait.
use Rattle.std.proofs.Common.{◌≡◌, ◌≢◌, ℕ, zero, suc, ◌+◌, ◌-◌, ◌<◌, ◌≤◌, ⊎_elim, Bool, true, false, not, if◌then◌else◌, Option, Some, None, IfSome, List, [], ◌∷◌, ◌++◌, length, get_or, set, refl, ap, sym, ◌∙◌, subst, arith, get_or-set_same, get_or-set_other}
use Rattle.std.specs.Option.{IfNone}
use Rattle.std.proofs.lemmas.Bool.{and_from, and_parts, cases_eq, cases_lt, cases_Bool, both_ways, ltb-true, not_from_false}
use Rattle.job_base.specs.declared.JobId.{JobId}
use Rattle.frame_ast.specs.Jobs.{Jobs, greatest}
use Rattle.frame_ast.specs.Laws.{AreUpTo}
use Rattle.frame_ast.proofs.Ancestry.{greatest_in, greatest_none}
use Rattle.job_handle.specs.declared.handle.Handle.{Handle}
use Rattle.job_handle.specs.Sets.{jobs_of, outside, job_numbered}
use Rattle.job_base.specs.declared.limits.TheConstants.{MOST_JOBS}
use Rattle.slot_store.specs.declared.place.State.{State}
use Rattle.slot_store.specs.declared.place.State.TheVariants.{Free, Taken, Held}
use Rattle.slot_store.specs.declared.place.Place.{Place}
use Rattle.slot_store.specs.declared.place.Waiting.{Waiting}
use Rattle.slot_store.specs.Places.{unused, in_use, is_held, users_of, place_at, times, slot_in, job_in}
use Rattle.slot_store.specs.Kept.{AreWaiting}
use Rattle.slot_store.proofs.Rooms.{place_push}
use Rattle.slot_store.proofs.Settling.{on_list}

abbrev entry : ℕ → ℕ → Waiting
entry slot job = record { slot = slot; job = job }

abbrev nothing : Waiting
nothing = record { slot = 0; job = 0 }

pub not_user : (q : State) (j : ℕ) → is_held q ≡ false → users_of q j ≡ true → ⊥
not_user Free j h u = both_ways false refl u
not_user Taken j h u = both_ways false refl u
not_user (Held users) j h u = both_ways true h refl

pub not_held_if_free : (q : State) → in_use q ≡ false → is_held q ≡ false
not_held_if_free Free e = refl
not_held_if_free Taken e = refl
not_held_if_free (Held users) e = absurd (both_ways true e refl)

pub among_all : (h : Handle) → AreUpTo MOST_JOBS (jobs_of h)
among_all h j t = let p = and_parts _ _ t in let q = and_parts _ _ p.0 in let a = ltb-true 0 j q.0 in let b = ltb-true j (MOST_JOBS + 1) q.1 in (a, omega arith)

pub user_range : (q : State) (j : ℕ) → users_of q j ≡ true → (0 < j) × (j ≤ MOST_JOBS)
user_range Free j u = absurd (both_ways false refl u)
user_range Taken j u = absurd (both_ways false refl u)
user_range (Held users) j u = among_all users j u

-- WHAT CHANGES IN A STORE

-- a place of a slot that isn't held
pub waits_set : (ps : List Place) (held : List Waiting) (n : ℕ) (done : Handle) (s : ℕ) (p : Place) → is_held (place_at ps s).state ≡ false
    → AreWaiting ps held n done → AreWaiting (set ps s p) held n done
waits_set ps held n done s p idle W = record {
  within = W.within;
  users = λ k lt some. let u = W.users k lt some in
      let ne : slot_in held k ≢ s = λ e. not_user (place_at ps s).state (job_in held k) idle
      (subst (λ m. users_of (place_at ps m).state (job_in held k) ≡ true) e u) in
      subst (λ (q : Place). users_of q.state (job_in held k) ≡ true) (sym (get_or-set_other ps s (slot_in held k) p unused ne)) u;
  noted = W.noted;
  pending = W.pending;
}

-- places that are the same
pub waits_same : (ps qs : List Place) (held : List Waiting) (n : ℕ) (done : Handle) → ((s : ℕ) → place_at qs s ≡ place_at ps s) → AreWaiting ps held n done
    → AreWaiting qs held n done
waits_same ps qs held n done same W = record {
  within = W.within;
  users = λ k lt some. subst (λ (q : Place). users_of q.state (job_in held k) ≡ true) (sym (same (slot_in held k))) (W.users k lt some);
  noted = W.noted;
  pending = W.pending;
}

-- places after a push that may have found no memory
pub waits_longer : (ok : Bool) (ps qs : List Place) (held : List Waiting) (n : ℕ) (done : Handle) → qs ≡ (if ok then ps ++ unused ∷ [] else ps)
    → AreWaiting ps held n done → AreWaiting qs held n done
waits_longer true ps qs held n done e W = subst (λ l. AreWaiting l held n done) (sym e) (waits_same ps (ps ++ unused ∷ []) held n done (place_push ps) W)
waits_longer false ps qs held n done e W = subst (λ l. AreWaiting l held n done) (sym e) W

no_job : (xs : List Waiting) (s k : ℕ) → length xs ≤ k → job_in (xs ++ (record { slot = s; job = 0 }) ∷ []) k ≡ 0
no_job [] s zero le = refl
no_job [] s (suc k) le = refl
no_job (x ∷ xs) s zero le = absurd (omega arith)
no_job (x ∷ xs) s (suc k) le = no_job xs s k (omega arith)

left_of : (xs : List Waiting) (x : Waiting) (k : ℕ) → k < length xs → get_or (xs ++ x ∷ []) k nothing ≡ get_or xs k nothing
left_of [] x k lt = absurd (omega arith)
left_of (y ∷ xs) x zero lt = refl
left_of (y ∷ xs) x (suc k) lt = left_of xs x k (omega arith)

longer : (xs : List Waiting) (x : Waiting) → length xs ≤ length (xs ++ x ∷ [])
longer [] x = omega arith
longer (y ∷ xs) x = let r = longer xs x in omega arith

-- a slot more that is held, with no job noted
pub waits_pushed : (ps : List Place) (held : List Waiting) (n : ℕ) (done : Handle) (s : ℕ) → AreWaiting ps held n done
    → AreWaiting ps (held ++ (record { slot = s; job = 0 }) ∷ []) n done
waits_pushed ps held n done s W = record {
  within = let l = longer held (record { slot = s; job = 0 }) in let w = W.within in omega arith;
  users = λ k lt some. ⊎_elim
      (λ in_old. subst (λ (x : Waiting). users_of (place_at ps x.slot).state x.job ≡ true) (sym (left_of held (record { slot = s; job = 0 }) k in_old))
      (W.users k in_old (subst (λ (x : Waiting). 0 < x.job) (left_of held (record { slot = s; job = 0 }) k in_old) some)))
      (λ past. let z = no_job held s k past in absurd (omega arith))
      (cases_lt k (length held));
  noted = λ k lt. let w = W.within in subst (λ (x : Waiting). 0 < x.job) (sym (left_of held (record { slot = s; job = 0 }) k (omega arith))) (W.noted k lt);
  pending = λ k lt. let w = W.within in subst (λ (x : Waiting). jobs_of done x.job ≡ false) (sym (left_of held (record { slot = s; job = 0 }) k (omega arith)))
      (W.pending k lt);
}

-- all are to be looked at
pub waits_anew : (ps : List Place) (held : List Waiting) (n : ℕ) (done now : Handle) → AreWaiting ps held n done → AreWaiting ps held 0 now
waits_anew ps held n done now W = record {
  within = omega arith;
  users = W.users;
  noted = λ k lt. absurd (omega arith);
  pending = λ k lt. absurd (omega arith);
}

-- no other job was completed
pub waits_on : (ps : List Place) (held : List Waiting) (n : ℕ) (done now : Handle) → ((j : ℕ) → jobs_of now j ≡ true → jobs_of done j ≡ true)
    → AreWaiting ps held n done → AreWaiting ps held n now
waits_on ps held n done now sub W = record {
  within = W.within;
  users = W.users;
  noted = W.noted;
  pending = λ k lt. ⊎_elim (λ t. absurd (both_ways (jobs_of done (job_in held k)) (W.pending k lt) (sub (job_in held k) t))) (λ f. f)
      (cases_Bool (jobs_of now (job_in held k)));
}

-- the next slot waits for a job
pub waits_kept : (ps : List Place) (held : List Waiting) (n : ℕ) (done : Handle) (slot job : ℕ) → AreWaiting ps held n done → n < length held
    → slot ≡ slot_in held n → users_of (place_at ps slot).state job ≡ true → 0 < job → jobs_of done job ≡ false
    → AreWaiting ps (set held n (record { slot = slot; job = job })) (n + 1) done
waits_kept ps held n done slot job W lt e user some pending = record {
  within = let q = size held n in omega arith;
  users = λ k l p. ⊎_elim
      (λ q. subst (λ (x : Waiting). users_of (place_at ps x.slot).state x.job ≡ true) (sym (at_n k q)) user)
      (λ ne. subst (λ (x : Waiting). users_of (place_at ps x.slot).state x.job ≡ true) (sym (other k ne))
      (W.users k (let q = size held n in omega arith) (subst (λ (x : Waiting). 0 < x.job) (other k ne) p)))
      (cases_eq k n);
  noted = λ k l. ⊎_elim
      (λ q. subst (λ (x : Waiting). 0 < x.job) (sym (at_n k q)) some)
      (λ ne. subst (λ (x : Waiting). 0 < x.job) (sym (other k ne)) (W.noted k (omega arith)))
      (cases_eq k n);
  pending = λ k l. ⊎_elim
      (λ q. subst (λ (x : Waiting). jobs_of done x.job ≡ false) (sym (at_n k q)) pending)
      (λ ne. subst (λ (x : Waiting). jobs_of done x.job ≡ false) (sym (other k ne)) (W.pending k (omega arith)))
      (cases_eq k n);
}
  where
    size : (xs : List Waiting) (i : ℕ) → length (set xs i (entry slot job)) ≡ length xs
    size [] i = refl
    size (x ∷ xs) zero = refl
    size (x ∷ xs) (suc i) = ap suc (size xs i)

    at_n : (k : ℕ) → k ≡ n → get_or (set held n (entry slot job)) k nothing ≡ entry slot job
    at_n k q = ap (λ m. get_or (set held n (entry slot job)) m nothing) q ∙ get_or-set_same held n (entry slot job) nothing lt

    other : (k : ℕ) → k ≢ n → get_or (set held n (entry slot job)) k nothing ≡ get_or held k nothing
    other k ne = get_or-set_other held n k (entry slot job) nothing ne

pub waits_next : (ps : List Place) (held : List Waiting) (n : ℕ) (done : Handle) (k slot job : ℕ) → AreWaiting ps held n done → k ≡ n → k < length held
    → slot ≡ slot_in held k → users_of (place_at ps slot).state job ≡ true → 0 < job → jobs_of done job ≡ false
    → AreWaiting ps (set held k (record { slot = slot; job = job })) (k + 1) done
waits_next ps held n done k slot job W q = subst
    (λ m. AreWaiting ps held m done → m < length held → slot ≡ slot_in held m → users_of (place_at ps slot).state job ≡ true → 0 < job
    → jobs_of done job ≡ false → AreWaiting ps (set held m (record { slot = slot; job = job })) (m + 1) done)
    (sym q) (λ V. waits_kept ps held n done slot job V) (subst (λ m. AreWaiting ps held m done) (sym q) W)

-- A slot is free, and its entry is gone: each that is left was on the list, and the first n are as they were.
pub waits_freed : (ps : List Place) (held left : List Waiting) (n s : ℕ) (done : Handle) (p : Place) → AreWaiting ps held n done → n ≤ length left
    → ((k : ℕ) → k < length left → (m : ℕ) × (m < length held) × (get_or left k nothing ≡ get_or held m nothing))
    → ((k : ℕ) → k < n → get_or left k nothing ≡ get_or held k nothing)
    → times left s ≡ 0 → AreWaiting (set ps s p) left n done
waits_freed ps held left n s done p W within was first gone = record {
  within = within;
  users = λ k lt some.
      let r = was k lt in
      let u : users_of (place_at ps (slot_in left k)).state (job_in left k) ≡ true =
      subst (λ (x : Waiting). users_of (place_at ps x.slot).state x.job ≡ true) (sym r.2) (W.users r.0 r.1 (subst (λ (x : Waiting). 0 < x.job) r.2 some)) in
      let ne : slot_in left k ≢ s = λ e. let o = on_list left k lt in let z : times left (slot_in left k) ≡ 0 = ap (λ m. times left m) e ∙ gone in
      absurd (omega arith) in
      subst (λ (q : Place). users_of q.state (job_in left k) ≡ true) (sym (get_or-set_other ps s (slot_in left k) p unused ne)) u;
  noted = λ k lt. subst (λ (x : Waiting). 0 < x.job) (sym (first k lt)) (W.noted k lt);
  pending = λ k lt. subst (λ (x : Waiting). jobs_of done x.job ≡ false) (sym (first k lt)) (W.pending k lt);
}

-- the same where the last of `size` entries took the place of the one that is gone
pub waits_removed : (ps : List Place) (held left : List Waiting) (n at s size : ℕ) (done : Handle) (p : Place) → AreWaiting ps held n done → at ≡ n
    → size ≡ length held → at < size → length left + 1 ≡ size
    → ((d : Waiting) → at + 1 < size → get_or left at d ≡ get_or held (size - 1) d)
    × ((k : ℕ) (d : Waiting) → k ≢ at → k + 1 < size → get_or left k d ≡ get_or held k d)
    → times left s ≡ 0 → AreWaiting (set ps s p) left n done
waits_removed ps held left n at s size done p W here all lt less moved gone = waits_freed ps held left n s done p W (omega arith)
    (λ k l. ⊎_elim
    (λ e. (size - 1, omega arith, ap (λ m. get_or left m nothing) e ∙ moved.0 nothing (omega arith)))
    (λ ne. (k, omega arith, moved.1 k nothing ne (omega arith)))
    (cases_eq k at))
    (λ k l. moved.1 k nothing (omega arith) (omega arith))
    gone

-- WHAT A SEARCH FINDS

-- a bound of a handle's jobs
bound : (h : Handle) → (n : ℕ) × AreUpTo n (jobs_of h)
bound h = (MOST_JOBS, among_all h)

one_by : (set : Jobs) (n m : ℕ) (j : JobId) → m ≡ greatest set n → Some j ≡ job_numbered m → (0 < j.0) × (set j.0 ≡ true)
one_by set n zero j q f = absurd (cc)
one_by set n (suc m) j q f =
    let s : j.0 ≡ suc m = ap number f in
    let g = greatest_in set n (omega arith) in
    (omega arith, subst (λ k. set k ≡ true) (sym q ∙ sym s) g)
  where
    number : Option JobId → ℕ
    number None = 0
    number (Some x) = x.0

none_by : (set : Jobs) (n m : ℕ) → m ≡ greatest set n → None ≡ job_numbered m → (j : ℕ) → 0 < j → j ≤ n → set j ≡ false
none_by set n (suc m) q f j some le = absurd (cc)
none_by set n zero q f j some le = greatest_none set n (sym q) j some le

pub found_some : (users done : Handle) (o : Option JobId) → ((n : ℕ) → AreUpTo n (jobs_of users)
    → o ≡ job_numbered (greatest (outside (jobs_of users) (jobs_of done)) n))
    → IfSome o (λ j. (0 < j.0) × (jobs_of users j.0 ≡ true) × (jobs_of done j.0 ≡ false))
found_some users done None e = tt
found_some users done (Some j) e =
    let b = bound users in
    let r = one_by (outside (jobs_of users) (jobs_of done)) b.0 (greatest (outside (jobs_of users) (jobs_of done)) b.0) j refl (e b.0 b.1) in
    let p = and_parts _ _ r.1 in (r.0, p.0, not_true (jobs_of done j.0) p.1)
  where
    not_true : (b : Bool) → not b ≡ true → b ≡ false
    not_true true e = cc
    not_true false e = refl

pub found_none : (users done : Handle) (o : Option JobId) → ((n : ℕ) → AreUpTo n (jobs_of users)
    → o ≡ job_numbered (greatest (outside (jobs_of users) (jobs_of done)) n)) → IfNone o ((j : ℕ) → jobs_of users j ≡ true → jobs_of done j ≡ true)
found_none users done (Some j) e = tt
found_none users done None e = λ j u.
    let b = bound users in
    let r = b.1 j u in
    let z = none_by (outside (jobs_of users) (jobs_of done)) b.0 (greatest (outside (jobs_of users) (jobs_of done)) b.0) refl (e b.0 b.1) j r.0 r.1 in
    ⊎_elim (λ t. t) (λ d. absurd (both_ways (outside (jobs_of users) (jobs_of done) j) z (and_from _ _ u (not_from_false _ d)))) (cases_Bool (jobs_of done j))
