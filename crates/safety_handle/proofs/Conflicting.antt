-- A set of the jobs whose use conflicts, and the greatest of them that doesn't happen before.
use Rattle.std.proofs.Common.{◌≡◌, ℕ, zero, suc, ◌+◌, ◌-◌, ◌<◌, ◌≤◌, ⊎_elim, Bool, true, false, ◌&&◌, ◌||◌, Option, None, Some, refl, sym, ap, subst, ◌∙◌, arith}
use Rattle.std.specs.Prelude.{not, nat_eq, nat_lt, if◌then◌else◌}
use Rattle.std.proofs.lemmas.Bool.{cond-false, or_left, or_right, or_cases, and_parts, and_from, eqb-true, eq-eqb, ltb-true, lt-ltb, not_from_true, not_from_false, false_from_ne_true}
use Rattle.job_base.specs.declared.JobId.{JobId}
use Rattle.job_base.specs.declared.limits.TheConstants.{MOST_JOBS}
use Rattle.frame_ast.specs.Jobs.{Jobs, nobody, only, both, greatest, Book, happens_before}
use Rattle.frame_ast.specs.Conflicts.{Uses, blocker}
use Rattle.frame_ast.specs.Laws.{AreUpTo, AreUses}
use Rattle.frame_ast.proofs.Ancestry.{greatest_below, greatest_in, greatest_above}
use Rattle.job_handle.specs.declared.handle.Handle.{Handle}
use Rattle.job_handle.specs.declared.book.JobBook.{JobBook}
use Rattle.job_handle.specs.Sets.{bit_of, jobs_of, outside, job_numbered}
use Rattle.job_handle.specs.Books.{StandsFor}
use Rattle.job_handle.proofs.Booleans.{not_both, same_test}
use Rattle.safety_handle.specs.Uses.{Latest, StandForUses, latest_blockers}
use Rattle.safety_handle.specs.Entries.{conflicting_in}
use Rattle.safety_handle.proofs.Latest.{latest_decide}

-- SETS

low : (h : Handle) (k : ℕ) → jobs_of h k ≡ true → 0 < k
low h k e = ltb-true 0 k (and_parts (nat_lt 0 k) (nat_lt k (MOST_JOBS + 1)) (and_parts (nat_lt 0 k && nat_lt k (MOST_JOBS + 1)) (bit_of h.words (k - 1)) e).0).0

pub one_writer : (h : Handle) (w : ℕ) (readers : Jobs) → jobs_of h ≡ only w → 0 < w
    → jobs_of h ≡ conflicting_in (record { writer = w; readers = readers }) false
one_writer h w readers e some = λ i k. (is k) i
  where
    is : (k : ℕ) → jobs_of h k ≡ (nat_lt 0 k && (nat_eq k w || false))
    is k = (λ i. e i k) ∙ same_test (nat_eq k w) (nat_lt 0 k && (nat_eq k w || false))
        (λ t. let q = eqb-true k w t in and_from (nat_lt 0 k) (nat_eq k w || false) (lt-ltb 0 k (omega arith)) (or_left (nat_eq k w) false t))
        (λ t. ⊎_elim (λ q. q) (λ f. absurd (not_both f refl)) (or_cases (nat_eq k w) false (and_parts (nat_lt 0 k) (nat_eq k w || false) t).1))

-- no writer and no reader that counts
none : (k : ℕ) (x : Bool) → (x ≡ true → ⊥) → false ≡ (nat_lt 0 k && (nat_eq k 0 || x))
none k x not = sym (false_from_ne_true (nat_lt 0 k && (nat_eq k 0 || x)) (λ t.
    let p = and_parts (nat_lt 0 k) (nat_eq k 0 || x) t in
    let some : 0 < k = ltb-true 0 k p.0 in
    ⊎_elim (λ q. let z : k ≡ 0 = eqb-true k 0 q in absurd (omega arith)) (λ f. absurd (not f)) (or_cases (nat_eq k 0) x p.1)))

pub no_writer : (h : Handle) (readers : Jobs) → jobs_of h ≡ nobody → jobs_of h ≡ conflicting_in (record { writer = 0; readers = readers }) false
no_writer h readers e = λ i k. ((λ i. e i k) ∙ none k false (λ t. not_both t refl)) i

pub no_user : (h : Handle) (writes : Bool) → jobs_of h ≡ nobody → jobs_of h ≡ conflicting_in (record { writer = 0; readers = nobody }) writes
no_user h writes e = λ i k. ((λ i. e i k) ∙ none k (writes && false) (λ t. not_both (and_parts writes false t).1 refl)) i

pub with_readers : (writer readers all : Handle) (w : ℕ) → jobs_of writer ≡ conflicting_in (record { writer = w; readers = jobs_of readers }) false
    → jobs_of all ≡ both (jobs_of writer) (jobs_of readers)
    → jobs_of all ≡ conflicting_in (record { writer = w; readers = jobs_of readers }) true
with_readers writer readers all w e f = λ i k. (is k) i
  where
    is : (k : ℕ) → jobs_of all k ≡ (nat_lt 0 k && (nat_eq k w || jobs_of readers k))
    is k = (λ i. f i k) ∙ ap (λ x. x || jobs_of readers k) (λ i. e i k) ∙ same_test ((nat_lt 0 k && (nat_eq k w || false)) || jobs_of readers k)
        (nat_lt 0 k && (nat_eq k w || jobs_of readers k))
        (λ t. ⊎_elim
        (λ a. let p = and_parts (nat_lt 0 k) (nat_eq k w || false) a in
        and_from (nat_lt 0 k) (nat_eq k w || jobs_of readers k) p.0 (⊎_elim (λ q. or_left (nat_eq k w) (jobs_of readers k) q) (λ q. absurd (not_both q refl))
        (or_cases (nat_eq k w) false p.1)))
        (λ r. and_from (nat_lt 0 k) (nat_eq k w || jobs_of readers k) (lt-ltb 0 k (low readers k r)) (or_right (nat_eq k w) (jobs_of readers k) r))
        (or_cases (nat_lt 0 k && (nat_eq k w || false)) (jobs_of readers k) t))
        (λ t. let p = and_parts (nat_lt 0 k) (nat_eq k w || jobs_of readers k) t in
        ⊎_elim
        (λ q. or_left (nat_lt 0 k && (nat_eq k w || false)) (jobs_of readers k)
        (and_from (nat_lt 0 k) (nat_eq k w || false) p.0 (or_left (nat_eq k w) false q)))
        (λ r. or_right (nat_lt 0 k && (nat_eq k w || false)) (jobs_of readers k) r)
        (or_cases (nat_eq k w) (jobs_of readers k) p.1))

-- THE GREATEST BLOCKER

alike : (p q : Jobs) (n : ℕ) → ((k : ℕ) → 0 < k → p k ≡ q k) → greatest p n ≡ greatest q n
alike p q zero h = refl
alike p q (suc n) h = λ i. if (h (suc n) (omega arith) i) then suc n else (alike p q n h i)

among : (b : Book) (l : Latest) (u : Uses) → AreUses b u → StandForUses b l u → (users : Handle) (writes : Bool) → jobs_of users ≡ conflicting_in l writes
    → AreUpTo b.count (jobs_of users)
among b l u U S users writes e j t =
    let p = and_parts (nat_lt 0 j) (nat_eq j l.writer || (writes && l.readers j)) (sym (λ i. e i j) ∙ t) in
    ⊎_elim
    (λ q. let same : j ≡ l.writer = eqb-true j l.writer q in
    let top : l.writer ≤ b.count = subst (λ x. x ≤ b.count) (sym S.writer) (greatest_below u.writers b.count) in
    (ltb-true 0 j p.0, omega arith))
    (λ r. U.users j (and_parts (u.users j) (nat_lt l.writer j) (sym (S.readers j) ∙ (and_parts writes (l.readers j) r).1)).0)
    (or_cases (nat_eq j l.writer) (writes && l.readers j) p.1)

pub blocks : (book : JobBook) (l : Latest) (users before after : Handle) (writes : Bool) (found : Option JobId) → jobs_of users ≡ conflicting_in l writes
    → ((b : Book) → StandsFor book b → (k : ℕ) → jobs_of before k ≡ happens_before b (jobs_of after) k)
    → ((n : ℕ) → AreUpTo n (jobs_of users) → found ≡ job_numbered (greatest (outside (jobs_of users) (jobs_of before)) n))
    → (b : Book) (u : Uses) → StandsFor book b → AreUses b u → StandForUses b l u → found ≡ job_numbered (blocker b u (jobs_of after) writes)
blocks book l users before after writes found e is latest b u F U S =
    latest b.count (among b l u U S users writes e)
    ∙ ap (λ n. job_numbered n) (alike (outside (jobs_of users) (jobs_of before)) (latest_blockers b l (jobs_of after) writes) b.count same
    ∙ latest_decide b l u F.known U S (jobs_of after) writes)
  where
    same : (k : ℕ) → 0 < k → outside (jobs_of users) (jobs_of before) k ≡ latest_blockers b l (jobs_of after) writes k
    same k some =
        (λ i. e i k && not (is b F k i))
        ∙ ap (λ (x : Bool). (x && (nat_eq k l.writer || (writes && l.readers k))) && not (happens_before b (jobs_of after) k)) (lt-ltb 0 k some)

none_greatest : (set : Jobs) (n : ℕ) → ((k : ℕ) → 0 < k → set k ≡ false) → 0 ≡ greatest set n
none_greatest set zero none = refl
none_greatest set (suc n) none = none_greatest set n none ∙ sym (cond-false (set (suc n)) (suc n) (greatest set n) (none (suc n) (omega arith)))

-- where no job conflicts, none blocks
pub nothing_blocks : (book : JobBook) (l : Latest) (after : Handle) (writes : Bool) → ((k : ℕ) → conflicting_in l writes k ≡ false)
    → (b : Book) (u : Uses) → StandsFor book b → AreUses b u → StandForUses b l u → None ≡ job_numbered (blocker b u (jobs_of after) writes)
nothing_blocks book l after writes free b u F U S =
    ap (λ n. job_numbered n) (none_greatest (latest_blockers b l (jobs_of after) writes) b.count none ∙ latest_decide b l u F.known U S (jobs_of after) writes)
  where
    none : (k : ℕ) → 0 < k → latest_blockers b l (jobs_of after) writes k ≡ false
    none k some =
        (λ i. (sym (lt-ltb 0 k some) i && (nat_eq k l.writer || (writes && l.readers k))) && not (happens_before b (jobs_of after) k))
        ∙ (λ i. free k i && not (happens_before b (jobs_of after) k))

-- where a use waits for all jobs that conflict, none blocks
pub waited_for : (book : JobBook) (l : Latest) (after : Handle) (writes : Bool)
    → ((b : Book) → StandsFor book b → (k : ℕ) → conflicting_in l writes k ≡ true → happens_before b (jobs_of after) k ≡ true)
    → (b : Book) (u : Uses) → StandsFor book b → AreUses b u → StandForUses b l u → None ≡ job_numbered (blocker b u (jobs_of after) writes)
waited_for book l after writes waits b u F U S =
    ap (λ n. job_numbered n) (none_greatest (latest_blockers b l (jobs_of after) writes) b.count none ∙ latest_decide b l u F.known U S (jobs_of after) writes)
  where
    none : (k : ℕ) → 0 < k → latest_blockers b l (jobs_of after) writes k ≡ false
    none k some = false_from_ne_true (latest_blockers b l (jobs_of after) writes k) (λ t.
        let p = and_parts (nat_eq k l.writer || (writes && l.readers k)) (not (happens_before b (jobs_of after) k)) t in
        not_both p.1 (not_from_true (happens_before b (jobs_of after) k)
        (waits b F k (and_from (nat_lt 0 k) (nat_eq k l.writer || (writes && l.readers k)) (lt-ltb 0 k some) p.0))))

-- the writer is the only job that conflicts where no reader counts
pub only_writer : (l : Latest) (writes : Bool) (k : ℕ) → ((k : ℕ) → (writes && l.readers k) ≡ false) → conflicting_in l writes k ≡ true → k ≡ l.writer
only_writer l writes k unread t = ⊎_elim
    (λ q. eqb-true k l.writer q)
    (λ r. absurd (not_both r (unread k)))
    (or_cases (nat_eq k l.writer) (writes && l.readers k) (and_parts (nat_lt 0 k) (nat_eq k l.writer || (writes && l.readers k)) t).1)

numbered : (j : ℕ) → 0 < j → Some (record { 0 = j }) ≡ job_numbered j
numbered zero low = absurd (omega arith)
numbered (suc j) low = refl

-- where the writer doesn't happen before, it blocks a use that only reads
pub writer_blocks : (book : JobBook) (l : Latest) (after : Handle) (w : ℕ) → w ≡ l.writer → 0 < w
    → ((b : Book) → StandsFor book b → happens_before b (jobs_of after) w ≡ false)
    → (b : Book) (u : Uses) → StandsFor book b → AreUses b u → StandForUses b l u → Some (record { 0 = w }) ≡ job_numbered (blocker b u (jobs_of after) false)
writer_blocks book l after w same some late b u F U S =
    numbered w some ∙ ap (λ n. job_numbered n) (is_writer ∙ latest_decide b l u F.known U S (jobs_of after) false)
  where
    set : Jobs
    set = latest_blockers b l (jobs_of after) false

    top : l.writer ≤ b.count
    top = subst (λ x. x ≤ b.count) (sym S.writer) (greatest_below u.writers b.count)

    here : set w ≡ true
    here = and_from (nat_eq w l.writer || false) (not (happens_before b (jobs_of after) w)) (or_left (nat_eq w l.writer) false (eq-eqb w l.writer same))
        (not_from_false (happens_before b (jobs_of after) w) (late b F))

    is_writer : w ≡ greatest set b.count
    is_writer =
        let above : w ≤ greatest set b.count = greatest_above set b.count w (let t = top in omega arith) here in
        let g : ℕ = greatest set b.count in
        let p = and_parts (nat_eq g l.writer || false) (not (happens_before b (jobs_of after) g)) (greatest_in set b.count (omega arith)) in
        ⊎_elim
        (λ q. same ∙ sym (eqb-true g l.writer q))
        (λ f. absurd (not_both f refl))
        (or_cases (nat_eq g l.writer) false p.0)

-- no job conflicts with a use that only reads where there is no writer
pub unwritten : (l : Latest) (k : ℕ) → l.writer ≡ 0 → conflicting_in l false k ≡ false
unwritten l k z = ap (λ w. nat_lt 0 k && (nat_eq k w || false)) z ∙ sym (none k false (λ t. not_both t refl))

-- where no reader counts, a use that writes is blocked as one that only reads
pub unread_same : (book : JobBook) (l : Latest) (after : Handle) (writes : Bool) → ((k : ℕ) → (writes && l.readers k) ≡ false)
    → (b : Book) (u : Uses) → StandsFor book b → AreUses b u → StandForUses b l u → blocker b u (jobs_of after) false ≡ blocker b u (jobs_of after) writes
unread_same book l after writes unread b u F U S =
    sym (latest_decide b l u F.known U S (jobs_of after) false)
    ∙ alike (latest_blockers b l (jobs_of after) false) (latest_blockers b l (jobs_of after) writes) b.count
    (λ k some. ap (λ x. (nat_eq k l.writer || x) && not (happens_before b (jobs_of after) k)) (sym (unread k)))
    ∙ latest_decide b l u F.known U S (jobs_of after) writes
