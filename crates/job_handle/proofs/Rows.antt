-- The rows of a book are the ancestors of single jobs, and unions of rows are the ancestors of sets.
use Rattle.std.proofs.Common.{◌≡◌, ℕ, suc, ◌+◌, ◌-◌, ◌<◌, ◌≤◌, ⊎_elim, ◌⊎◌, inl, inr, Bool, true, false, if◌then◌else◌, ◌&&◌, ◌||◌, List, [], ◌∷◌, ◌++◌, length, slice_index_or, refl, sym, ap, subst, subst₂, ◌∙◌, arith}
use Rattle.std.specs.Prelude.{not, nat_eq, nat_lt}
use Rattle.std.proofs.lemmas.Bool.{or_left, or_right, or_cases, and_parts, and_from, eq-eqb, eqb-true, ltb-true, cases_eq, cases_lt}
use Rattle.std.proofs.lemmas.List.{get_or_append_left}
use Rattle.std.proofs.Math.Seq.{get_or-append_seam}
use Rattle.frame_ast.specs.Jobs.{Jobs, nobody, only, both, ancestors_in, Book, empty_book, with_job, with_completed}
use Rattle.frame_ast.specs.Laws.{AreUpTo, IsBook}
use Rattle.frame_ast.proofs.Ancestry.{contains, least, closes, grows, through}
use Rattle.frame_ast.proofs.Known.{job_book, completed_book}
use Rattle.job_handle.specs.declared.handle.Handle.{Handle}
use Rattle.job_handle.specs.Sets.{bit_of, jobs_of, outside, HaveOwnJobs}
use Rattle.job_handle.specs.Books.{AreRowsOf, IsUnion}
use Rattle.job_handle.proofs.Booleans.{not_both, same_test}

-- ANCESTORS OF SETS AND OF SINGLE JOBS

-- an ancestor of a set is one of a single job of it
from_one : (b : Book) → IsBook b → (given : Jobs) (j : ℕ) → ancestors_in b given j ≡ true → (m : ℕ) × (given m ≡ true) × (ancestors_in b (only m) j ≡ true)
from_one b B given j e = least b.deps (λ j. (m : ℕ) × (given m ≡ true) × (ancestors_in b (only m) j ≡ true))
    (λ j k p d. (p.0, p.1, closes b.deps b.count (λ x y le f. (B.older x y f).1.1) (only p.0) j k (B.older j k d).0 p.2 d)) b.count given
    (λ m g. (m, g, contains b.deps b.count (only m) m (eq-eqb m m refl))) j e

itself : (b : Book) (m : ℕ) → ancestors_in b (only m) m ≡ true
itself b m = contains b.deps b.count (only m) m (eq-eqb m m refl)

low : (h : Handle) (k : ℕ) → jobs_of h k ≡ true → 0 < k
low h k e = ltb-true 0 k (and_parts (nat_lt 0 k) (nat_lt k 4097) (and_parts (nat_lt 0 k && nat_lt k 4097) (bit_of h.words (k - 1)) e).0).0

in_other : (x y : Bool) → (x && not y) ≡ false → x ≡ true → y ≡ true
in_other x true f t = refl
in_other x false f t = absurd (not_both (and_from x true t refl) f)

-- UNIONS OF ROWS

module _ (made : ℕ) (table : List Handle) (ended h : Handle) where
  pub none_yet : (all : Handle) → jobs_of all ≡ nobody → IsUnion made table ended h all made
  none_yet all e = record {
    sub = λ b F k t. absurd (not_both t (λ i. e i k));
    closed = λ b F m k t a. absurd (not_both t (λ i. e i m));
    cover = λ m less le g. absurd (omega arith);
  }

  -- the row of job i + 1
  pub one_more : (all more row : Handle) (i : ℕ) → IsUnion made table ended h all (suc i) → i < made → jobs_of h (suc i) ≡ true
      → row ≡ slice_index_or table i row → jobs_of row (suc i) ≡ true
      → jobs_of more ≡ both (jobs_of all) (jobs_of row) → IsUnion made table ended h more i
  one_more all more row i C lt wanted at own e = record {
    sub = λ b F k t. ⊎_elim
        (λ a. C.sub b F k a)
        (λ a. through b.deps b.count F.known.older (jobs_of h) (suc i) (contains b.deps b.count (jobs_of h) (suc i) wanted) k (in_row b F k a))
        (or_cases (jobs_of all k) (jobs_of row k) (sym (is k) ∙ t));
    closed = λ b F m k t a. is k ∙ ⊎_elim
        (λ l. or_left (jobs_of all k) (jobs_of row k) (C.closed b F m k l a))
        (λ r. or_right (jobs_of all k) (jobs_of row k) (of_row b F k (through b.deps b.count F.known.older (only (suc i)) m (in_row b F m r) k a)))
        (or_cases (jobs_of all m) (jobs_of row m) (sym (is m) ∙ t));
    cover = λ m less le g. is m ∙ ⊎_elim
        (λ q. or_right (jobs_of all m) (jobs_of row m) (subst (λ x. jobs_of row x ≡ true) (sym q) own))
        (λ ne. or_left (jobs_of all m) (jobs_of row m) (C.cover m (omega arith) le g))
        (cases_eq m (suc i));
  }
    where
      is : (k : ℕ) → jobs_of more k ≡ (jobs_of all k || jobs_of row k)
      is k = λ x. e x k

      row_is : (b : Book) → AreRowsOf made table ended b → (k : ℕ) → jobs_of row k ≡ ancestors_in b (only (suc i)) k
      row_is b F k = ap (λ x. jobs_of x k) at ∙ F.rows i row (let n = F.count in omega arith) k

      in_row : (b : Book) → AreRowsOf made table ended b → (k : ℕ) → jobs_of row k ≡ true → ancestors_in b (only (suc i)) k ≡ true
      in_row b F k a = sym (row_is b F k) ∙ a

      of_row : (b : Book) → AreRowsOf made table ended b → (k : ℕ) → ancestors_in b (only (suc i)) k ≡ true → jobs_of row k ≡ true
      of_row b F k a = row_is b F k ∙ a

  -- the jobs from `less` + 1 to `left` add nothing: those of them that are wanted are there
  pub passed_by : (all : Handle) (left less : ℕ) → IsUnion made table ended h all left
      → ((k : ℕ) → less < k → k ≤ left → jobs_of h k ≡ true → jobs_of all k ≡ true) → IsUnion made table ended h all less
  passed_by all left less C there = record {
    sub = C.sub;
    closed = C.closed;
    cover = λ m low le g. ⊎_elim
        (λ before. there m low before g)
        (λ after. C.cover m after le g)
        (within m);
  }
    where
      within : (m : ℕ) → (m ≤ left) ⊎ (left < m)
      within m = ⊎_elim (λ lt. inr lt) (λ ge. inl ge) (cases_lt left m)

  -- no job up to `left` is left to be taken
  pub none_left : (all : Handle) (left : ℕ) → IsUnion made table ended h all left
      → ((k : ℕ) → 0 < k → k ≤ left → outside (jobs_of h) (jobs_of all) k ≡ false) → IsUnion made table ended h all 0
  none_left all left C none = passed_by all left 0 C (λ k low high wanted. in_other (jobs_of h k) (jobs_of all k) (none k low high) wanted)

  -- the row of the last job up to `left` that isn't there
  pub next_row : (all more row : Handle) (left j : ℕ) → IsUnion made table ended h all left → left ≤ made → 0 < j → j ≤ left
      → outside (jobs_of h) (jobs_of all) j ≡ true → ((k : ℕ) → j < k → k ≤ left → outside (jobs_of h) (jobs_of all) k ≡ false)
      → row ≡ slice_index_or table (j - 1) row → jobs_of row j ≡ true
      → jobs_of more ≡ both (jobs_of all) (jobs_of row) → IsUnion made table ended h more (j - 1)
  next_row all more row left j C within low high wanted none at own e =
      let same : j ≡ suc (j - 1) = omega arith in
      one_more all more row (j - 1)
      (passed_by all left (suc (j - 1)) C (λ k above below t. in_other (jobs_of h k) (jobs_of all k) (none k (omega arith) below) t))
      (omega arith)
      (subst (λ k. jobs_of h k ≡ true) same (and_parts (jobs_of h j) (not (jobs_of all j)) wanted).0)
      at (subst (λ k. jobs_of row k ≡ true) same own) e

  pub all_there : (all : Handle) → IsUnion made table ended h all 0 → AreUpTo made (jobs_of h) → (b : Book) → AreRowsOf made table ended b → (k : ℕ)
      → jobs_of all k ≡ ancestors_in b (jobs_of h) k
  all_there all C known b F k = same_test (jobs_of all k) (ancestors_in b (jobs_of h) k)
      (λ t. C.sub b F k t)
      (λ t. let m = from_one b F.known (jobs_of h) k t in C.closed b F m.0 k (C.cover m.0 (low h m.0 m.1) (known m.0 m.1).1 m.1) m.2)

  pub all_own : (all : Handle) → IsUnion made table ended h all 0 → AreUpTo made (jobs_of h) → (k : ℕ) → jobs_of h k ≡ true → jobs_of all k ≡ true
  all_own all C known k t = let range = known k t in C.cover k range.0 range.1 t

-- WHAT IS COMPLETED

-- a set of the book is one of each book that it stands for
pub known_in : (made : ℕ) (table : List Handle) (ended h : Handle) → AreUpTo made (jobs_of h) → (b : Book) → AreRowsOf made table ended b
    → AreUpTo b.count (jobs_of h)
known_in made table ended h known b F = subst (λ n. AreUpTo n (jobs_of h)) F.count known

pub completes : (made : ℕ) (table : List Handle) (ended h all done : Handle)
    → ((b : Book) → AreRowsOf made table ended b → (k : ℕ) → jobs_of all k ≡ ancestors_in b (jobs_of h) k)
    → jobs_of done ≡ both (jobs_of ended) (jobs_of all) → AreUpTo made (jobs_of h) → (b : Book) → AreRowsOf made table ended b
    → AreRowsOf made table done (with_completed b (jobs_of h))
completes made table ended h all done is e known b F = record {
  known = completed_book b F.known (jobs_of h) (known_in made table ended h known b F);
  count = F.count;
  rows = F.rows;
  completed = λ k. (λ x. e x k) ∙ (ap (λ x. x || jobs_of all k) (F.completed k) ∙ ap (λ x. b.completed k || x) (is b F k));
}

-- ONE MORE JOB

module _ (b : Book) (B : IsBook b) (after : Jobs) (among : AreUpTo b.count after) where
  older : (j k : ℕ) → j ≤ suc b.count → (with_job b after).deps j k ≡ true → k < j
  older j k le d = ((job_book b B after among).older j k d).1.1

  earlier : (j k : ℕ) → j ≤ b.count → b.deps j k ≡ true → k < j
  earlier j k le d = (B.older j k d).1.1

  -- the row of the new job: what it waits for, all that this leads to, and the job itself
  pub new_row : (k : ℕ) → (ancestors_in b after k || nat_eq k (suc b.count)) ≡ ancestors_in (with_job b after) (only (suc b.count)) k
  new_row k = same_test (ancestors_in b after k || nat_eq k (suc b.count)) (ancestors_in (with_job b after) (only (suc b.count)) k)
      (λ t. ⊎_elim (λ a. waited k a) (λ q. contains (with_job b after).deps (suc b.count) (only (suc b.count)) k q)
      (or_cases (ancestors_in b after k) (nat_eq k (suc b.count)) t))
      (λ t. least (with_job b after).deps (λ i. (ancestors_in b after i || nat_eq i (suc b.count)) ≡ true)
      (λ i m p d. or_left (ancestors_in b after m) (nat_eq m (suc b.count)) (older_in i m p d))
      (suc b.count) (only (suc b.count)) (λ i g. or_right (ancestors_in b after i) (nat_eq i (suc b.count)) g) k t)
    where
      waited : (k : ℕ) → ancestors_in b after k ≡ true → ancestors_in (with_job b after) (only (suc b.count)) k ≡ true
      waited k a = least b.deps (λ i. ancestors_in (with_job b after) (only (suc b.count)) i ≡ true)
          (λ i m p d. let le = (B.older i m d).0 in closes (with_job b after).deps (suc b.count) older (only (suc b.count)) i m (omega arith) p
          (or_left (b.deps i m) (nat_eq i (suc b.count) && after m) d))
          b.count after
          (λ i g. closes (with_job b after).deps (suc b.count) older (only (suc b.count)) (suc b.count) i (omega arith)
          (itself (with_job b after) (suc b.count))
          (or_right (b.deps (suc b.count) i) (nat_eq (suc b.count) (suc b.count) && after i)
          (and_from (nat_eq (suc b.count) (suc b.count)) (after i) (eq-eqb (suc b.count) (suc b.count) refl) g)))
          k a

      older_in : (i m : ℕ) → (ancestors_in b after i || nat_eq i (suc b.count)) ≡ true → (with_job b after).deps i m ≡ true → ancestors_in b after m ≡ true
      older_in i m p d = ⊎_elim
          (λ e. ⊎_elim
          (λ a. closes b.deps b.count earlier after i m (B.older i m e).0 a e)
          (λ q. let le = (B.older i m e).0 in let r : i ≡ suc b.count = eqb-true i (suc b.count) q in absurd (omega arith))
          (or_cases (ancestors_in b after i) (nat_eq i (suc b.count)) p))
          (λ e. contains b.deps b.count after m (and_parts (nat_eq i (suc b.count)) (after m) e).1)
          (or_cases (b.deps i m) (nat_eq i (suc b.count) && after m) d)

  -- the rows of the others stay
  pub old_row : (m : ℕ) → m ≤ b.count → (k : ℕ) → ancestors_in b (only m) k ≡ ancestors_in (with_job b after) (only m) k
  old_row m le k = same_test (ancestors_in b (only m) k) (ancestors_in (with_job b after) (only m) k)
      (λ t. grows b.deps (with_job b after).deps b.count (suc b.count) (only m) (only m) (job_book b B after among).older
      (λ i j d. or_left (b.deps i j) (nat_eq i (suc b.count) && after j) d) (λ i g. contains (with_job b after).deps (suc b.count) (only m) i g) k t)
      (λ t. (least (with_job b after).deps (λ i. (i ≤ b.count) × (ancestors_in b (only m) i ≡ true))
      (λ i j p d. ⊎_elim
      (λ e. let o = (B.older i j e).1.1 in let u = p.0 in (omega arith, closes b.deps b.count earlier (only m) i j p.0 p.1 e))
      (λ e. let q : i ≡ suc b.count = eqb-true i (suc b.count) (and_parts (nat_eq i (suc b.count)) (after j) e).0 in let u = p.0 in absurd (omega arith))
      (or_cases (b.deps i j) (nat_eq i (suc b.count) && after j) d))
      (suc b.count) (only m) (λ i g. let q : i ≡ m = eqb-true i m g in (omega arith, contains b.deps b.count (only m) i g)) k t).1)

pub adds : (made : ℕ) (table : List Handle) (ended h all row : Handle) → length table ≡ made
    → ((b : Book) → AreRowsOf made table ended b → (k : ℕ) → jobs_of all k ≡ ancestors_in b (jobs_of h) k)
    → jobs_of row ≡ both (jobs_of all) (only (made + 1)) → AreUpTo made (jobs_of h)
    → (b : Book) → AreRowsOf made table ended b → AreRowsOf (made + 1) (table ++ row ∷ []) ended (with_job b (jobs_of h))
adds made table ended h all row size is e known b F = record {
  known = job_book b F.known (jobs_of h) among;
  count = let n = F.count in omega arith;
  rows = λ j d lt k. ⊎_elim
      (λ q. let n = F.count in
      let s : made + 1 ≡ suc b.count = omega arith in
      let last : suc b.count ≡ suc j = omega arith in
      ap (λ x. jobs_of x k) (ap (λ i. slice_index_or (table ++ row ∷ []) i d) (let i : j ≡ length table = omega arith in i) ∙ get_or-append_seam table row [] d)
      ∙ (λ x. e x k) ∙ ap (λ x. x || nat_eq k (made + 1)) (is b F k)
      ∙ ap (λ i. ancestors_in b (jobs_of h) k || nat_eq k i) s
      ∙ new_row b F.known (jobs_of h) among k
      ∙ ap (λ i. ancestors_in (with_job b (jobs_of h)) (only i) k) last)
      (λ ne. let n = F.count in
      ap (λ x. jobs_of x k) (get_or_append_left table (row ∷ []) d j (omega arith))
      ∙ (F.rows j d (omega arith) k ∙ old_row b F.known (jobs_of h) among (suc j) (omega arith) k))
      (cases_eq j b.count);
  completed = F.completed;
}
  where
    among : AreUpTo b.count (jobs_of h)
    among = known_in made table ended h known b F

-- the row of the new job has it
own_added : (made : ℕ) (table : List Handle) (all row : Handle) → length table ≡ made → HaveOwnJobs made table
    → jobs_of row ≡ both (jobs_of all) (only (made + 1))
    → HaveOwnJobs (made + 1) (table ++ row ∷ [])
own_added made table all row size own e j d lt = ⊎_elim
    (λ q. ap (λ x. jobs_of x (suc j)) (ap (λ i. slice_index_or (table ++ row ∷ []) i d) (let i : j ≡ length table = omega arith in i)
    ∙ get_or-append_seam table row [] d)
    ∙ (λ x. e x (suc j)) ∙ or_right (jobs_of all (suc j)) (nat_eq (suc j) (made + 1)) (eq-eqb (suc j) (made + 1) (omega arith)))
    (λ ne. ap (λ x. jobs_of x (suc j)) (get_or_append_left table (row ∷ []) d j (omega arith)) ∙ own j d (omega arith))
    (cases_eq j made)

-- the rows after a push that may have found no memory
pub own_grown : (ok : Bool) (made made' : ℕ) (table table' : List Handle) (all row : Handle) → length table ≡ made → HaveOwnJobs made table
    → jobs_of row ≡ both (jobs_of all) (only (made + 1))
    → made' ≡ (if ok then made + 1 else made) → table' ≡ (if ok then table ++ row ∷ [] else table) → HaveOwnJobs made' table'
own_grown true made made' table table' all row size own e n t =
    subst₂ (λ m l. HaveOwnJobs m l) (sym n) (sym t) (own_added made table all row size own e)
own_grown false made made' table table' all row size own e n t = subst₂ (λ m l. HaveOwnJobs m l) (sym n) (sym t) own

-- the same where the new job is given as a set
pub own_pushed : (ok : Bool) (made made' : ℕ) (table table' : List Handle) (one all row : Handle) → length table ≡ made → HaveOwnJobs made table
    → jobs_of one ≡ only (made + 1) → jobs_of row ≡ both (jobs_of all) (jobs_of one)
    → made' ≡ (if ok then made + 1 else made) → table' ≡ (if ok then table ++ row ∷ [] else table) → HaveOwnJobs made' table'
own_pushed ok made made' table table' one all row size own single e =
    own_grown ok made made' table table' all row size own (e ∙ ap (λ s. both (jobs_of all) s) single)

pub no_jobs : {made : ℕ} {table : List Handle} {ended : Handle} → made ≡ 0 → jobs_of ended ≡ nobody → AreRowsOf made table ended empty_book
no_jobs z e = record {
  known = record {
    older = λ j k d. absurd (not_both d refl);
    completed = λ j t. absurd (not_both t refl);
    closed = λ j k t d. absurd (not_both t refl);
  };
  count = z;
  rows = λ j d lt. absurd (omega arith);
  completed = λ k i. e i k;
}
