-- Held ranges come back.
use Rattle.std.proofs.Common.{◌≡◌, ℕ, zero, suc, ◌+◌, ◌<◌, ◌≤◌, ⊎_elim, Bool, true, false, ◌&&◌, not, nat_eq, if◌then◌else◌, List, [], ◌∷◌, length, get_or, set, sum_by, refl, ap, sym, ◌∙◌, subst, arith}
use Rattle.std.specs.List.{swap_remove}
use Rattle.std.proofs.lemmas.List.Sums.{sum_by-cons, sum_by-swap_remove}
use Rattle.std.proofs.lemmas.Bool.{and_from, and_left, and_right, cases_eq, cases_Bool, both_ways, eq-eqb, ne_eqb, cond-true, cond-false, not_from_true, not_from_false}
use Rattle.frame_ast.specs.Jobs.{Jobs, Book, greatest}
use Rattle.frame_ast.specs.Laws.{AreUpTo}
use Rattle.frame_ast.proofs.Ancestry.{greatest_below, greatest_in, greatest_above}
use Rattle.job_handle.specs.declared.handle.Handle.{Handle}
use Rattle.job_handle.specs.Sets.{jobs_of}
use Rattle.slot_store.specs.declared.place.State.{State}
use Rattle.slot_store.specs.declared.place.State.TheVariants.{Free, Taken, Held}
use Rattle.slot_store.specs.declared.place.Place.{Place}
use Rattle.slot_store.specs.declared.place.Waiting.{Waiting}
use Rattle.slot_store.specs.Places.{unused, in_use, is_taken, is_held, users_of, place_at, held_once, times, slot_in, job_in}
use Rattle.slot_store.specs.Kept.{AreWaiting}
use Rattle.slot_store.specs.Stores.{is_pending, freed, settled}
use Rattle.slot_store.proofs.Placing.{here, there}

pub pending_some : (b : Book) (users : Jobs) (j : ℕ) → 0 < j → j ≤ b.count → users j ≡ true → b.completed j ≡ false → is_pending b users ≡ true
pending_some b users j some le u c =
    let g = greatest_above (λ k. users k && not (b.completed k)) b.count j le (and_from _ _ u (not_from_false _ c)) in
    not_from_false _ (ne_eqb (greatest (λ k. users k && not (b.completed k)) b.count) 0 (omega arith))

pub pending_none : (b : Book) (users : Jobs) → ((j : ℕ) → 0 < j → j ≤ b.count → (users j && not (b.completed j)) ≡ false) → is_pending b users ≡ false
pending_none b users none = ⊎_elim
    (λ z. not_from_true _ (eq-eqb (greatest (λ k. users k && not (b.completed k)) b.count) 0 z))
    (λ n. absurd (both_ways _ (none (greatest (λ k. users k && not (b.completed k)) b.count) (omega arith)
    (greatest_below (λ k. users k && not (b.completed k)) b.count)) (greatest_in (λ k. users k && not (b.completed k)) b.count (omega arith))))
    (cases_eq (greatest (λ k. users k && not (b.completed k)) b.count) 0)

-- THE LIST OF HELD SLOTS

abbrev once_at : ℕ → Waiting → ℕ
once_at s x = if nat_eq x.slot s then 1 else 0

pub found : (xs : List Waiting) (s : ℕ) → 0 < times xs s → (k : ℕ) × (k < length xs) × (slot_in xs k ≡ s)
found [] s lt = absurd (omega arith)
found (x ∷ xs) s lt = ⊎_elim
    (λ e. (0, omega arith, e))
    (λ n. let q = sum_by-cons (once_at s) x xs in
    let z : once_at s x ≡ 0 = cond-false (nat_eq x.slot s) 1 0 (ne_eqb x.slot s n) in
    let r = found xs s (omega arith) in let l = r.1 in (suc r.0, omega arith, r.2)) (cases_eq x.slot s)

pub on_list : (xs : List Waiting) (k : ℕ) → k < length xs → 0 < times xs (slot_in xs k)
on_list [] k lt = absurd (omega arith)
on_list (x ∷ xs) zero lt = let q = sum_by-cons (once_at x.slot) x xs in
    let o : once_at x.slot x ≡ 1 = cond-true (nat_eq x.slot x.slot) 1 0 (eq-eqb x.slot x.slot refl) in omega arith
on_list (x ∷ xs) (suc k) lt = let q = sum_by-cons (once_at (slot_in xs k)) x xs in let r = on_list xs k (omega arith) in omega arith

pub times_set : (xs : List Waiting) (k : ℕ) (y : Waiting) (s : ℕ) → k < length xs → y.slot ≡ slot_in xs k → times (set xs k y) s ≡ times xs s
times_set [] k y s lt e = absurd (omega arith)
times_set (x ∷ xs) zero y s lt e = sum_by-cons (once_at s) y xs ∙ (ap (λ m. (if nat_eq m s then 1 else 0) + times xs s) e ∙ sym (sum_by-cons (once_at s) x xs))
times_set (x ∷ xs) (suc k) y s lt e = sum_by-cons (once_at s) x (set xs k y)
    ∙ (ap (λ m. once_at s x + m) (times_set xs k y s (omega arith) e) ∙ sym (sum_by-cons (once_at s) x xs))

pub slot_set : (xs : List Waiting) (k : ℕ) (y : Waiting) (m : ℕ) → k < length xs → y.slot ≡ slot_in xs k → slot_in (set xs k y) m ≡ slot_in xs m
slot_set [] k y m lt e = absurd (omega arith)
slot_set (x ∷ xs) zero y zero lt e = e
slot_set (x ∷ xs) zero y (suc m) lt e = refl
slot_set (x ∷ xs) (suc k) y zero lt e = refl
slot_set (x ∷ xs) (suc k) y (suc m) lt e = slot_set xs k y m (omega arith) e

-- a slot on the list is held
pub held_on_list : (ps : List Place) (xs : List Waiting) (k : ℕ) → ((s : ℕ) → times xs s ≡ held_once (place_at ps s)) → k < length xs
    → is_held (place_at ps (slot_in xs k)).state ≡ true
held_on_list ps xs k held lt = ⊎_elim (λ t. t)
    (λ f. let a = on_list xs k lt in let b = held (slot_in xs k) in
    let c : held_once (place_at ps (slot_in xs k)) ≡ 0 = cond-false (is_held (place_at ps (slot_in xs k)).state) 1 0 f in absurd (omega arith))
    (cases_Bool (is_held (place_at ps (slot_in xs k)).state))

pub used_if_held : (q : State) → is_held q ≡ true → in_use q ≡ true
used_if_held Free e = absurd (both_ways false refl e)
used_if_held Taken e = refl
used_if_held (Held users) e = refl

-- SETTLED PLACES

pub settled_if_not_held : (b : Book) (p : Place) → is_held p.state ≡ false → settled b p ≡ p
settled_if_not_held b p e = cond-false (is_held p.state && not (is_pending b (users_of p.state))) (freed p) p
    (ap (λ x. x && not (is_pending b (users_of p.state))) e)

pub settled_if_pending : (b : Book) (p : Place) → is_pending b (users_of p.state) ≡ true → settled b p ≡ p
settled_if_pending b p e = cond-false (is_held p.state && not (is_pending b (users_of p.state))) (freed p) p
    (no (is_held p.state) (is_pending b (users_of p.state)) e)
  where
    no : (a c : Bool) → c ≡ true → (a && not c) ≡ false
    no true c e = not_from_true c e
    no false c e = refl

pub settled_if_over : (b : Book) (p : Place) → is_held p.state ≡ true → is_pending b (users_of p.state) ≡ false → settled b p ≡ freed p
settled_if_over b p h e = cond-true (is_held p.state && not (is_pending b (users_of p.state))) (freed p) p (and_from _ _ h (not_from_false _ e))

pub fewer_users : (place new : ℕ → Place) (x : ℕ) → ((s : ℕ) → new s ≡ (if nat_eq s x then freed (place s) else place s)) → (s j : ℕ)
    → users_of (new s).state j ≡ true → users_of (place s).state j ≡ true
fewer_users place new x step s j h = ⊎_elim
    (λ e. let q : new s ≡ freed (place s) = step s ∙ cond-true (nat_eq s x) (freed (place s)) (place s) (eq-eqb s x e) in
    absurd (both_ways false refl (subst (λ (p : Place). users_of p.state j ≡ true) q h)))
    (λ n. subst (λ (p : Place). users_of p.state j ≡ true) (step s ∙ cond-false (nat_eq s x) (freed (place s)) (place s) (ne_eqb s x n)) h)
    (cases_eq s x)

pub slot_is : (xs : List Waiting) (i : ℕ) (x : Waiting) → i < length xs → x ≡ get_or xs i x → x.slot ≡ slot_in xs i
slot_is [] i x lt e = absurd (omega arith)
slot_is (y ∷ xs) zero x lt e = ap (λ (z : Waiting). z.slot) e
slot_is (y ∷ xs) (suc i) x lt e = slot_is xs i x (omega arith) e

pub not_taken_if_held : (q : State) → is_held q ≡ true → is_taken q ≡ false
not_taken_if_held Free e = refl
not_taken_if_held Taken e = absurd (both_ways false refl e)
not_taken_if_held (Held users) e = refl

-- the list once slot s is free and its entry is gone
pub unlisted : (ps : List Place) (xs ys : List Waiting) (s : ℕ) (p : Place) → s < length ps → ((t : ℕ) → times xs t ≡ held_once (place_at ps t))
    → is_held (place_at ps s).state ≡ true → ((t : ℕ) → times ys t + (if nat_eq s t then 1 else 0) ≡ times xs t) → is_held p.state ≡ false → (t : ℕ)
    → times ys t ≡ held_once (place_at (set ps s p) t)
unlisted ps xs ys s p known held now gone idle t = let r = gone t in let h = held t in ⊎_elim
    (λ e. let q = cond-true {A = ℕ} (nat_eq s t) 1 0 (eq-eqb s t (sym e)) in
    let o : held_once (place_at ps t) ≡ 1 = ap (λ m. held_once (place_at ps m)) e ∙ cond-true (is_held (place_at ps s).state) 1 0 now in
    let n : held_once (place_at (set ps s p) t) ≡ 0 = ap held_once (ap (λ m. place_at (set ps s p) m) e ∙ here ps s p known)
    ∙ cond-false (is_held p.state) 1 0 idle in omega arith)
    (λ n. let q = cond-false {A = ℕ} (nat_eq s t) 1 0 (ne_eqb s t (λ e. n (sym e))) in
    let o : held_once (place_at (set ps s p) t) ≡ held_once (place_at ps t) = ap held_once (there ps s p known t n) in omega arith)
    (cases_eq t s)

-- what the last entry of the list leaves, where it takes the place of entry k
pub times_removed : (xs ys : List Waiting) (k s : ℕ) (x : Waiting) → k < length xs → s ≡ slot_in xs k → x ≡ get_or xs k x → ys ≡ swap_remove xs k x → (t : ℕ)
    → times ys t + (if nat_eq s t then 1 else 0) ≡ times xs t
times_removed xs ys k s x lt e is q t =
    let r = sum_by-swap_remove (once_at t) xs k x lt in
    let m : x.slot ≡ s = slot_is xs k x lt is ∙ sym e in
    let o : once_at t (get_or xs k x) ≡ (if nat_eq s t then 1 else 0) = ap (once_at t) (sym is) ∙ ap (λ n. if nat_eq n t then 1 else 0) m in
    let p : times ys t ≡ sum_by (once_at t) (swap_remove xs k x) = ap (λ l. times l t) q in omega arith

-- no user that isn't completed
pub none_pending : (b : Book) (users done : Jobs) → ((j : ℕ) → done j ≡ b.completed j) → ((j : ℕ) → users j ≡ true → done j ≡ true) → is_pending b users ≡ false
none_pending b users done same all = pending_none b users (λ j some le. ⊎_elim
    (λ t. and_right _ _ (not_from_true _ (sym (same j) ∙ all j t)))
    (λ f. and_left _ _ f)
    (cases_Bool (users j)))

-- a range that nobody uses any more comes back: settled places are as they were
pub settled_same : (b : Book) (old new : ℕ → Place) (x : ℕ) → is_held (old x).state ≡ true → is_pending b (users_of (old x).state) ≡ false
    → ((s : ℕ) → new s ≡ (if nat_eq s x then freed (old s) else old s)) → (s : ℕ) → settled b (new s) ≡ settled b (old s)
settled_same b old new x held over step s = ⊎_elim
    (λ e. ap (settled b) (step s ∙ cond-true (nat_eq s x) (freed (old s)) (old s) (eq-eqb s x e))
    ∙ (settled_if_not_held b (freed (old s)) refl ∙ sym (settled_if_over b (old s) (subst (λ m. is_held (old m).state ≡ true) (sym e) held)
    (subst (λ m. is_pending b (users_of (old m).state) ≡ false) (sym e) over))))
    (λ n. ap (settled b) (step s ∙ cond-false (nat_eq s x) (freed (old s)) (old s) (ne_eqb s x n)))
    (cases_eq s x)

-- where each held slot waits for a job that isn't completed, all is settled
pub all_settled : (b : Book) (ps : List Place) (xs : List Waiting) (n : ℕ) (done : Handle) → AreWaiting ps xs n done → length xs ≤ n
    → ((s : ℕ) → times xs s ≡ held_once (place_at ps s)) → ((j : ℕ) → jobs_of done j ≡ b.completed j)
    → ((s : ℕ) → AreUpTo b.count (users_of (place_at ps s).state)) → (s : ℕ) → settled b (place_at ps s) ≡ place_at ps s
all_settled b ps xs n done W all held same known s = ⊎_elim
    (λ t. let h = held s in let o : held_once (place_at ps s) ≡ 1 = cond-true (is_held (place_at ps s).state) 1 0 t in
    let r = found xs s (omega arith) in let lt = r.1 in
    let u : users_of (place_at ps s).state (job_in xs r.0) ≡ true = subst (λ m. users_of (place_at ps m).state (job_in xs r.0) ≡ true) r.2
    (W.users r.0 r.1 (W.noted r.0 (omega arith))) in
    let k = known s (job_in xs r.0) u in
    settled_if_pending b (place_at ps s) (pending_some b (users_of (place_at ps s).state) (job_in xs r.0) k.0 k.1 u
    (sym (same (job_in xs r.0)) ∙ W.pending r.0 (omega arith))))
    (λ f. settled_if_not_held b (place_at ps s) f)
    (cases_Bool (is_held (place_at ps s).state))

-- where no slot is held
no_times : (xs : List Waiting) (s : ℕ) → length xs ≡ 0 → times xs s ≡ 0
no_times [] s none = refl
no_times (x ∷ xs) s none = absurd (omega arith)

pub none_held : (b : Book) (ps : List Place) (xs : List Waiting) → length xs ≡ 0 → ((s : ℕ) → times xs s ≡ held_once (place_at ps s)) → (s : ℕ)
    → place_at ps s ≡ settled b (place_at ps s)
none_held b ps xs none held s = ⊎_elim
    (λ t. let h = held s in let o : held_once (place_at ps s) ≡ 1 = cond-true (is_held (place_at ps s).state) 1 0 t in
    let z = no_times xs s none in absurd (omega arith))
    (λ f. sym (settled_if_not_held b (place_at ps s) f))
    (cases_Bool (is_held (place_at ps s).state))

-- sums over settled places
pub sum_settled : (f : Place → ℕ) → f unused ≡ 0 → (b : Book) (ps qs : List Place) → ((s : ℕ) → place_at qs s ≡ settled b (place_at ps s))
    → sum_by f qs ≡ sum_by (λ p. f (settled b p)) ps
sum_settled f none b [] [] same = refl
sum_settled f none b [] (q ∷ qs) same =
    let a = sum_by-cons f q qs in
    let h : f q ≡ 0 = ap f (same 0) ∙ none in
    let r = sum_settled f none b [] qs (λ s. same (suc s)) in omega arith
sum_settled f none b (p ∷ ps) [] same =
    let a = sum_by-cons (λ x. f (settled b x)) p ps in
    let h : f (settled b p) ≡ 0 = sym (ap f (same 0)) ∙ none in
    let r = sum_settled f none b ps [] (λ s. same (suc s)) in omega arith
sum_settled f none b (p ∷ ps) (q ∷ qs) same =
    let a = sum_by-cons (λ x. f (settled b x)) p ps in
    let d = sum_by-cons f q qs in
    let h : f q ≡ f (settled b p) = ap f (same 0) in
    let r = sum_settled f none b ps qs (λ s. same (suc s)) in omega arith
