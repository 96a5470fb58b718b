-- What binds that passed one by one are together.
use Rattle.std.proofs.Common.{◌≡◌, ◌≢◌, ◌∙◌, ℕ, zero, suc, ◌+◌, ◌≤◌, ◌<◌, ◌^◌, nat_lt, Bool, true, false, IsTrue, ◌⊎◌, ⊎_elim, inl, inr, List, [], ◌∷◌, length, take, get_or, Some, slice_get, refl, ap, sym, subst, arith}
use Rattle.std.proofs.lemmas.Bool.Decides.{nat_tests}
use Rattle.std.proofs.lemmas.Option.{get_or_from_slice_get}
use Rattle.frame_ast.specs.declared.kernel.Param.{Param}
use Rattle.frame_ast.specs.declared.kernel.Kernel.{Kernel}
use Rattle.kernel_exec.specs.declared.binds.Bind.{Bind}
use Rattle.kernel_exec.specs.Binds.{kind_of, end_of, IsWordOf}
use Rattle.kernel_exec.specs.Footprint.{IsRead, IsWritten}
use Rattle.kernel_exec.specs.Conditions.{BindsFit, MayRead, MayWrite}
use Rattle.kernel_exec.proofs.Rights.{reads_word, writes_word}
use Rattle.kernel_rows.specs.Standing.{AreBelow, AreOfKinds, Apart, ApartFrom, AreApart}

-- ---- rights of memory that has all words of the binds

word_below : (binds : List Bind) (n x w : ℕ) (b : Bind) → AreBelow binds n → slice_get binds x ≡ Some b → IsWordOf b w → IsTrue (nat_lt w n)
word_below binds n x w b below is word =
    let end : end_of b ≤ n = below x b is in
    let inside = word.below in
    grind (arith, nat_tests, inside, end)

pub may_read : (kernel : Kernel) (binds : List Bind) (index n : ℕ) → AreBelow binds n → MayRead kernel binds index (λ w. nat_lt w n)
may_read kernel binds index n below w r = word_below binds n r.number w r.bind below r.has_bind (reads_word _ r.bind _ _ w r.reads)

pub may_write_all : (kernel : Kernel) (binds : List Bind) (index n : ℕ) → AreBelow binds n → MayWrite kernel binds index (λ w. nat_lt w n)
may_write_all kernel binds index n below w r = word_below binds n r.number w r.bind below r.has_bind (writes_word _ r.bind _ _ w r.writes)

pub may_read_span : (kernel : Kernel) (binds : List Bind) (from to n : ℕ) → AreBelow binds n → (w : ℕ) → IsRead kernel.params.items binds from to w
    → IsTrue (nat_lt w n)
may_read_span kernel binds from to n below w r = word_below binds n r.number w r.bind below r.has_bind (reads_word _ r.bind _ _ w r.reads)

pub may_write_span : (kernel : Kernel) (binds : List Bind) (from to n : ℕ) → AreBelow binds n → (w : ℕ) → IsWritten kernel.params.items binds from to w
    → IsTrue (nat_lt w n)
may_write_span kernel binds from to n below w r = word_below binds n r.number w r.bind below r.has_bind (writes_word _ r.bind _ _ w r.writes)

-- as many words that may be used are as many words
at_most : (m n : ℕ) → nat_lt m n ≡ nat_lt m m → n ≤ m
at_most m n e = grind (arith, nat_tests)

abbrev below_number : ℕ → ℕ → Bool
below_number n w = nat_lt w n

pub same_number : (m n : ℕ) → below_number m ≡ below_number n → m ≡ n
same_number m n e =
    let less : n ≤ m = at_most m n (ap (λ (f : ℕ → Bool). f m) (sym e)) in
    let more : m ≤ n = at_most n m (ap (λ (f : ℕ → Bool). f n) e) in
    omega arith

-- ---- one by one

last_or : (m x : ℕ) → x < m + 1 → (x < m) ⊎ (x ≡ m)
last_or m x h = by (nat_lt x m) refl
  where
    by : (b : Bool) → nat_lt x m ≡ b → (x < m) ⊎ (x ≡ m)
    by true e = inl (grind (arith, nat_tests, e))
    by false e = inr (grind (arith, nat_tests, e, h))

-- what is so at each number before one, and at that one
pub one_more : (P : ℕ → Type 0) (m : ℕ) → ((x : ℕ) → x < m → P x) → P m → (x : ℕ) → x < m + 1 → P x
one_more P m before here x h = ⊎_elim (before x) (λ e. subst P (sym e) here) (last_or m x h)

pub fit_all : (kernel : Kernel) (binds : List Bind) (n : ℕ) → n < 2 ^ 32 → length binds ≡ length kernel.params.items → AreOfKinds kernel.params.items binds
    → AreBelow binds n → AreApart binds → BindsFit kernel binds
fit_all kernel binds n few count kinds below apart = record {
  count = count;
  kinds = kinds;
  ends = λ x b is. let end = below x b is in omega arith;
  apart = λ x y a b w may ne ea eb ia length ib. by x y a b w ne ea eb ia ib;
}
  where
    by : (x y : ℕ) (a b : Bind) (w : ℕ) → x ≢ y → slice_get binds x ≡ Some a → slice_get binds y ≡ Some b → IsWordOf a w → IsWordOf b w → ⊥
    by x y a b w ne ea eb ia ib = ⊎_elim (λ less. apart x y a b less ea eb w ib ia) (λ more. apart y x b a more eb ea w ia ib) (either x y ne)
      where
        either : (x y : ℕ) → x ≢ y → (x < y) ⊎ (y < x)
        either x y ne = at (nat_lt x y) refl
          where
            at : (b : Bool) → nat_lt x y ≡ b → (x < y) ⊎ (y < x)
            at true e = inl (grind (arith, nat_tests, e))
            at false e = inr (grind (arith, nat_tests, e, ne))

pub kind_here : (params : List Param) (binds : List Bind) (m : ℕ) (q p : Param) (d b : Bind) → kind_of (get_or binds m d) ≡ (get_or params m q).kind
    → slice_get params m ≡ Some p → slice_get binds m ≡ Some b → kind_of b ≡ p.kind
kind_here params binds m q p d b h ep eb =
    subst (λ b. kind_of b ≡ p.kind) (get_or_from_slice_get binds m b d eb)
    (subst (λ p. kind_of (get_or binds m d) ≡ p.kind) (get_or_from_slice_get params m p q ep) h)

pub apart_here : (a : Bind) (binds : List Bind) (m : ℕ) (d b : Bind) → Apart a (get_or binds m d) → slice_get binds m ≡ Some b → Apart a b
apart_here a binds m d b h is = subst (Apart a) (get_or_from_slice_get binds m b d is) h

among_first : (binds : List Bind) (m x : ℕ) → x < m → slice_get (take m binds) x ≡ slice_get binds x
among_first binds zero x h = absurd (omega arith)
among_first [] (suc m) x h = refl
among_first (b ∷ binds) (suc m) zero h = refl
among_first (b ∷ binds) (suc m) (suc x) h = among_first binds m x (omega arith)

-- a bind that shares no word with those before it
pub apart_from_first : (binds : List Bind) (m x : ℕ) (d a b : Bind) → ApartFrom (get_or binds m d) (take m binds) → x < m → slice_get binds x ≡ Some a
    → slice_get binds m ≡ Some b → Apart b a
apart_from_first binds m x d a b h less ea eb =
    subst (λ b. Apart b a) (get_or_from_slice_get binds m b d eb) (h x a (among_first binds m x less ∙ ea))
