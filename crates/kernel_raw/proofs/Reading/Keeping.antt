-- What the reader keeps of a reading, and lemmas of its parts.
use Rattle.std.proofs.Common.{◌≡◌, ◌≢◌, ℕ, zero, suc, ◌-◌, ◌+◌, ◌<◌, ◌≤◌, ◌^◌, nat_lt, min, eqb, Bool, true, false, if◌then◌else◌, List, [], ◌∷◌, ◌++◌, length, take, set, get_or, replicate, Option, Some, None, slice_get, refl, sym, ◌∙◌, ap, subst, arith, take_all, length-append, length-set}
use Rattle.std.proofs.lemmas.Bool.Decides.{nat_tests}
use Rattle.std.proofs.lemmas.List.{length-replicate, get_or_append_left, get_or-append_right, get_or-replicate, get_or-take, length-take, get_or-set_same, get_or-set_other, get_or_past}
use Rattle.kernel_raw.specs.declared.raw.RawNode.{RawNode}
use Rattle.kernel_raw.specs.declared.raw.TheConstants.{MOST_KEPT}
use Rattle.kernel_raw.specs.declared.late.Joint.{Joint}
use Rattle.kernel_raw.specs.Depths.{one_if}
use Rattle.kernel_raw.specs.Edges.{opened}
use Rattle.kernel_raw.specs.Reading.{Reading}
use Rattle.kernel_raw.proofs.RunningDepths.{opened-le}
use Rattle.kernel_raw.specs.Keeping.{Kept, first_at, joint_below, joint_with, sized, one_more}

-- WHAT IT KEEPS

-- the first node of node n, which this is
abbrev pub first_in : ℕ → Option RawNode → ℕ
first_in n None = n
first_in n (Some x) = n - x.before

-- these are open late nodes, the innermost first, all before this one, and only the joint begins with a kept node
abbrev pub AreLate : List RawNode → Option Joint → ℕ → List ℕ → Type 0
AreLate nodes joint end [] = Unit {0}
AreLate nodes joint end (n ∷ ns) =
    (MOST_KEPT ≤ n) × (n < end) × (min MOST_KEPT (first_in n (slice_get nodes n)) ≡ first_at joint (suc (length ns))) × AreLate nodes joint n ns

abbrev pub AreEarly : List ℕ → Type 0
AreEarly [] = Unit {0}
AreEarly (n ∷ ns) = (n < MOST_KEPT) × AreEarly ns

abbrev pub IsBelow : Option Joint → ℕ → Type 0
IsBelow None late = Unit {0}
IsBelow (Some j) late = (1 ≤ j.height) × (j.height ≤ late)

-- how many open late nodes begin with node n
abbrev pub joins : Option Joint → ℕ → ℕ
joins None n = 0
joins (Some j) n = one_if (eqb j.first n)

pub record Keeps (k : Kept) (s : Reading) : Type 0 where
  pub lates : List ℕ
  pub params : k.shown.params ≡ s.params
  pub param : k.shown.param ≡ s.param
  pub nodes : k.shown.nodes ≡ take MOST_KEPT s.nodes
  pub last : k.shown.last ≡ min MOST_KEPT s.last
  pub count : k.count ≡ length s.nodes
  pub are_open : s.opened ≡ lates ++ k.shown.opened
  pub early : AreEarly k.shown.opened
  pub late : k.late ≡ length lates
  pub are_late : AreLate s.nodes k.joint (length s.nodes) lates
  pub below : IsBelow k.joint (length lates)
  pub alone : k.shown.last < MOST_KEPT → k.joint ≡ None
  pub joined : (n : ℕ) → n < MOST_KEPT → get_or k.joined n 0 + joins k.joint n + opened n 0 k.shown.nodes ≡ opened n 0 s.nodes
  pub room : MOST_KEPT < k.count → MOST_KEPT ≤ length k.joined
  pub fits : length k.joined ≤ MOST_KEPT

-- TESTS

pub by_test : {A : Type 0} (P : A → Type 0) (b : Bool) (x y : A) → (b ≡ true → P x) → (b ≡ false → P y) → P (if b then x else y)
by_test P true x y f g = f refl
by_test P false x y f g = g refl

pub if_true : {A : Type 0} (b : Bool) (x y : A) → b ≡ true → (if b then x else y) ≡ x
if_true b x y e = ap (λ c. if c then x else y) e

pub if_false : {A : Type 0} (b : Bool) (x y : A) → b ≡ false → (if b then x else y) ≡ y
if_false b x y e = ap (λ c. if c then x else y) e

pub lt-of : (n m : ℕ) → nat_lt n m ≡ true → n < m
lt-of n m h = grind (arith, nat_tests)

pub ge-of : (n m : ℕ) → nat_lt n m ≡ false → m ≤ n
ge-of n m h = grind (arith, nat_tests)

pub of-lt : (n m : ℕ) → n < m → nat_lt n m ≡ true
of-lt n m h = grind (arith, nat_tests)

pub of-ge : (n m : ℕ) → m ≤ n → nat_lt n m ≡ false
of-ge n m h = grind (arith, nat_tests)

pub same-of : (n m : ℕ) → eqb n m ≡ true → n ≡ m
same-of n m h = grind (arith, nat_tests)

pub of-same : (n : ℕ) → eqb n n ≡ true
of-same n = grind (arith, nat_tests)

pub of-other : (n m : ℕ) → m < n → eqb n m ≡ false
of-other n m h = grind (arith, nat_tests)

-- numbers that agree below a bound are both some number below it or neither is
pub capped-same : (c a b n : ℕ) → n < c → min c a ≡ min c b → one_if (eqb a n) ≡ one_if (eqb b n)
capped-same c a b n h e = grind (arith, nat_tests)

-- THE JOINT

pub first-past : (j : Joint) (m : ℕ) → m < j.height → first_at (Some j) m ≡ MOST_KEPT
first-past j m h = if_false (eqb j.height m) j.first MOST_KEPT (of-other j.height m h)

pub first-above : (joint : Option Joint) (late m : ℕ) → IsBelow joint late → late < m → first_at joint m ≡ MOST_KEPT
first-above None late m w h = refl
first-above (Some j) late m w h = if_false (eqb j.height m) j.first MOST_KEPT (grind (arith, nat_tests, w.1, h))

pub below-alike : (joint : Option Joint) (h m : ℕ) → m < h → first_at (joint_below joint h) m ≡ first_at joint m
below-alike None h m lt = refl
below-alike (Some j) h m lt =
    by_test (λ o. first_at o m ≡ first_at (Some j) m) (eqb j.height h) None (Some j)
    (λ e. sym (first-past j m (omega (arith, same-of j.height h e, lt))))
    (λ e. refl)

pub with-alike : (joint : Option Joint) (h f m : ℕ) → m < h → (f < MOST_KEPT → joint ≡ None) → first_at (joint_with joint h f) m ≡ first_at joint m
with-alike joint h f m lt none =
    by_test (λ o. first_at o m ≡ first_at joint m) (nat_lt f MOST_KEPT) (Some (record { height = h; first = f })) joint
    (λ e. first-past (record { height = h; first = f }) m lt ∙ sym (ap (λ o. first_at o m) (none (lt-of f MOST_KEPT e))))
    (λ e. refl)

pub with-top : (joint : Option Joint) (h late f : ℕ) → IsBelow joint late → late < h → first_at (joint_with joint h f) h ≡ min MOST_KEPT f
with-top joint h late f w lt =
    by_test (λ o. first_at o h ≡ min MOST_KEPT f) (nat_lt f MOST_KEPT) (Some (record { height = h; first = f })) joint
    (λ e. let less = lt-of f MOST_KEPT e in let small : f ≡ min MOST_KEPT f = omega (arith, less) in if_true (eqb h h) f MOST_KEPT (of-same h) ∙ small)
    (λ e. let more = ge-of f MOST_KEPT e in let great : MOST_KEPT ≡ min MOST_KEPT f = omega (arith, more) in first-above joint late h w lt ∙ great)

pub with-below : (joint : Option Joint) (late f : ℕ) → IsBelow joint late → IsBelow (joint_with joint (late + 1) f) (suc late)
with-below joint late f w =
    by_test (λ o. IsBelow o (suc late)) (nat_lt f MOST_KEPT) (Some (record { height = late + 1; first = f })) joint
    (λ e. (omega arith, omega arith))
    (λ e. below-more joint late w)
  where
    below-more : (joint : Option Joint) (late : ℕ) → IsBelow joint late → IsBelow joint (suc late)
    below-more None late w = tt
    below-more (Some j) late w = (w.0, omega (arith, w.1))

pub with-joins : (joint : Option Joint) (h f n : ℕ) → n < MOST_KEPT → (f < MOST_KEPT → joint ≡ None)
    → joins (joint_with joint h f) n ≡ joins joint n + one_if (eqb f n)
with-joins joint h f n lt none =
    by_test (λ o. joins o n ≡ joins joint n + one_if (eqb f n)) (nat_lt f MOST_KEPT) (Some (record { height = h; first = f })) joint
    (λ e. let z : joins joint n ≡ 0 = ap (λ o. joins o n) (none (lt-of f MOST_KEPT e)) in omega (arith, z))
    (λ e. let far : one_if (eqb f n) ≡ 0 = ap one_if (of-other f n (omega (arith, ge-of f MOST_KEPT e, lt))) in omega (arith, far))

pub below-joins : (joint : Option Joint) (h n : ℕ) → n < MOST_KEPT → joins joint n ≡ joins (joint_below joint h) n + one_if (eqb (first_at joint h) n)
below-joins None h n lt = let far : one_if (eqb MOST_KEPT n) ≡ 0 = ap one_if (of-other MOST_KEPT n lt) in omega (arith, far)
below-joins (Some j) h n lt = cases (eqb j.height h)
  where
    cases : (b : Bool) → joins (Some j) n ≡ joins (if b then None else Some j) n + one_if (eqb (if b then j.first else MOST_KEPT) n)
    cases true = omega arith
    cases false = let far : one_if (eqb MOST_KEPT n) ≡ 0 = ap one_if (of-other MOST_KEPT n lt) in omega (arith, far)

pub below-below : (joint : Option Joint) (late : ℕ) → IsBelow joint (suc late) → IsBelow (joint_below joint (suc late)) late
below-below None late w = tt
below-below (Some j) late w =
    by_test (λ o. IsBelow o late) (eqb j.height (suc late)) None (Some j) (λ e. tt) (λ e. (w.0, grind (arith, nat_tests, w.1, e)))

pub below-none : (joint : Option Joint) (h : ℕ) → first_at joint h < MOST_KEPT → joint_below joint h ≡ None
below-none None h lt = refl
below-none (Some j) h lt = cases (eqb j.height h) lt
  where
    cases : (b : Bool) → (if b then j.first else MOST_KEPT) < MOST_KEPT → (if b then None else Some j) ≡ None
    cases true lt = refl
    cases false lt = absurd (omega arith)

pub none-below : (joint : Option Joint) → IsBelow joint 0 → joint ≡ None
none-below None w = refl
none-below (Some j) w = absurd (omega (arith, w.0, w.1))

-- LATE NODES

pub late-moved : (nodes others : List RawNode) (joint joint' : Option Joint) (end : ℕ) (ns : List ℕ) →
    ((n : ℕ) → n < end → slice_get others n ≡ slice_get nodes n) → ((m : ℕ) → m ≤ length ns → first_at joint' m ≡ first_at joint m) →
    AreLate nodes joint end ns → AreLate others joint' end ns
late-moved nodes others joint joint' end [] same alike h = tt
late-moved nodes others joint joint' end (n ∷ ns) same alike h = (
  h.0,
  h.1,
  ap (λ o. min MOST_KEPT (first_in n o)) (same n h.1) ∙ h.2 ∙ sym (alike (suc (length ns)) (omega arith)),
  late-moved nodes others joint joint' n ns (λ m lt. same m (omega (arith, lt, h.1))) (λ m le. alike m (omega (arith, le))) h.3,
)

pub late-few : (nodes : List RawNode) (joint : Option Joint) (end : ℕ) (ns : List ℕ) → AreLate nodes joint end ns → length ns ≤ end - MOST_KEPT
late-few nodes joint end [] h = omega arith
late-few nodes joint end (n ∷ ns) h = omega (arith, h.0, h.1, late-few nodes joint n ns h.3)

pub late-wider : (nodes : List RawNode) (joint : Option Joint) (end end' : ℕ) (ns : List ℕ) → end ≤ end' → AreLate nodes joint end ns
    → AreLate nodes joint end' ns
late-wider nodes joint end end' [] le h = tt
late-wider nodes joint end end' (n ∷ ns) le h = (h.0, omega (arith, h.1, le), h.2, h.3)

pub no-late : (nodes : List RawNode) (joint : Option Joint) (end : ℕ) (ns : List ℕ) → AreLate nodes joint end ns → end ≤ MOST_KEPT → ns ≡ []
no-late nodes joint end [] h le = refl
no-late nodes joint end (n ∷ ns) h le = absurd (omega (arith, h.0, h.1, le))

-- LISTS

pub get-front : (xs ys : List RawNode) (n : ℕ) → n < length xs → slice_get (xs ++ ys) n ≡ slice_get xs n
get-front [] ys n h = absurd (omega arith)
get-front (x ∷ xs) ys zero h = refl
get-front (x ∷ xs) ys (suc n) h = get-front xs ys n (omega arith)

pub get-seam : (xs : List RawNode) (y : RawNode) (ys : List RawNode) → slice_get (xs ++ y ∷ ys) (length xs) ≡ Some y
get-seam [] y ys = refl
get-seam (x ∷ xs) y ys = get-seam xs y ys

pub get-set : (xs : List RawNode) (i n : ℕ) (x : RawNode) → n < i → slice_get (set xs i x) n ≡ slice_get xs n
get-set [] i n x h = refl
get-set (y ∷ ys) zero n x h = absurd (omega arith)
get-set (y ∷ ys) (suc i) zero x h = refl
get-set (y ∷ ys) (suc i) (suc n) x h = get-set ys i n x (omega arith)

pub get-take : {X : Type 0} (m : ℕ) (xs : List X) (n : ℕ) → n < m → slice_get (take m xs) n ≡ slice_get xs n
get-take zero xs n h = absurd (omega arith)
get-take (suc m) [] n h = refl
get-take (suc m) (x ∷ xs) zero h = refl
get-take (suc m) (x ∷ xs) (suc n) h = get-take m xs n (omega arith)

pub set-take : (m : ℕ) (xs : List RawNode) (n : ℕ) (x : RawNode) → set (take m xs) n x ≡ take m (set xs n x)
set-take zero xs n x = refl
set-take (suc m) [] n x = refl
set-take (suc m) (y ∷ ys) zero x = refl
set-take (suc m) (y ∷ ys) (suc n) x = ap (λ zs. y ∷ zs) (set-take m ys n x)

pub set-get : (xs : List RawNode) (n : ℕ) (x y : RawNode) → slice_get xs n ≡ Some x → slice_get (set xs n y) n ≡ Some y
set-get [] n x y h = cc
set-get (z ∷ zs) zero x y h = refl
set-get (z ∷ zs) (suc n) x y h = set-get zs n x y h

pub got : (xs : List RawNode) (n : ℕ) → n < length xs → (x : RawNode) × (slice_get xs n ≡ Some x)
got [] n h = absurd (omega arith)
got (x ∷ xs) zero h = (x, refl)
got (x ∷ xs) (suc n) h = got xs n (omega arith)

-- one more node
pub opened-append : (k j : ℕ) (xs : List RawNode) (x : RawNode) → opened k j (xs ++ x ∷ []) ≡ opened k j xs + one_if (eqb (j + length xs - x.before) k)
opened-append k j [] x = let same : j - x.before ≡ j + 0 - x.before = omega arith in let e = ap (λ n. one_if (eqb n k)) same in omega (arith, e)
opened-append k j (y ∷ ys) x =
    let same : j + 1 + length ys - x.before ≡ j + length (y ∷ ys) - x.before = omega arith in
    let e = ap (λ n. one_if (eqb n k)) same in
    omega (arith, opened-append k (j + 1) ys x, e)

-- a node is another one
pub opened-set : (k j : ℕ) (xs : List RawNode) (n : ℕ) (x y : RawNode) → slice_get xs n ≡ Some x →
    opened k j (set xs n y) + one_if (eqb (j + n - x.before) k) ≡ opened k j xs + one_if (eqb (j + n - y.before) k)
opened-set k j [] n x y h = cc
opened-set k j (z ∷ zs) zero x y h =
    let same : z ≡ x = cc in
    let a : j + 0 - x.before ≡ j - x.before = omega arith in
    let b : j + 0 - y.before ≡ j - y.before = omega arith in
    let c = ap (λ n. one_if (eqb n k)) a in
    let d = ap (λ n. one_if (eqb n k)) b in
    let e = ap (λ w. one_if (eqb (j - w.before) k)) same in
    omega (arith, c, d, e)
opened-set k j (z ∷ zs) (suc n) x y h =
    let a : j + 1 + n - x.before ≡ j + suc n - x.before = omega arith in
    let b : j + 1 + n - y.before ≡ j + suc n - y.before = omega arith in
    let c = ap (λ n. one_if (eqb n k)) a in
    let d = ap (λ n. one_if (eqb n k)) b in
    omega (arith, opened-set k (j + 1) zs n x y h, c, d)

-- COUNTS

pub sized-length : (counts : List ℕ) → length counts ≤ MOST_KEPT → length (sized counts) ≡ MOST_KEPT
sized-length counts le =
    let a = length-append (take MOST_KEPT counts) (replicate (MOST_KEPT - length counts) 0) in
    let b = length-replicate {A = ℕ} (MOST_KEPT - length counts) 0 in
    let c = ap length (take_all MOST_KEPT counts le) in
    omega (arith, a, b, c, le)

-- a list that is cut to a length, or filled up to it with zeros
pub filled-at : (m : ℕ) (counts : List ℕ) (n : ℕ) → n < m → get_or (take m counts ++ replicate (m - length counts) 0) n 0 ≡ get_or counts n 0
filled-at m counts n lt = within (nat_lt n (length counts)) refl
  where
    zeros : List ℕ
    zeros = replicate (m - length counts) 0

    within : (b : Bool) → nat_lt n (length counts) ≡ b → get_or (take m counts ++ zeros) n 0 ≡ get_or counts n 0
    within true e =
        let short = lt-of n (length counts) e in
        get_or_append_left (take m counts) zeros 0 n (omega (arith, length-take m counts, short, lt)) ∙ get_or-take m counts n 0 lt
    within false e =
        let past = ge-of n (length counts) e in
        ap (λ xs. get_or (xs ++ zeros) n 0) (take_all m counts (omega (arith, past, lt)))
        ∙ get_or-append_right counts zeros (length counts) n 0 refl past
        ∙ get_or-replicate (m - length counts) (n - length counts) 0 0 (omega (arith, past, lt))
        ∙ sym (get_or_past counts n 0 past)

pub sized-at : (counts : List ℕ) (n : ℕ) → n < MOST_KEPT → get_or (sized counts) n 0 ≡ get_or counts n 0
sized-at counts n lt = filled-at MOST_KEPT counts n lt

pub more-length : (place : ℕ) (counts : List ℕ) → length (one_more place counts) ≡ length counts
more-length place counts =
    by_test (λ xs. length xs ≡ length counts) (nat_lt place (length counts)) (set counts place (get_or counts place 0 + 1)) counts
    (λ e. length-set counts place (get_or counts place 0 + 1))
    (λ e. refl)

pub more-at : (place : ℕ) (counts : List ℕ) (n : ℕ) → n < length counts → get_or (one_more place counts) n 0 ≡ get_or counts n 0 + one_if (eqb place n)
more-at place counts n lt =
    by_test (λ xs. get_or xs n 0 ≡ get_or counts n 0 + one_if (eqb place n)) (nat_lt place (length counts))
    (set counts place (get_or counts place 0 + 1)) counts
    (λ e. within (eqb place n) refl)
    (λ e. let far : one_if (eqb place n) ≡ 0 = ap one_if (of-other place n (omega (arith, ge-of place (length counts) e, lt))) in omega (arith, far))
  where
    within : (b : Bool) → eqb place n ≡ b → get_or (set counts place (get_or counts place 0 + 1)) n 0 ≡ get_or counts n 0 + one_if (eqb place n)
    within true e =
        let same = same-of place n e in
        subst (λ p. get_or (set counts p (get_or counts p 0 + 1)) n 0 ≡ get_or counts n 0 + one_if (eqb p n)) (sym same)
        (get_or-set_same counts n (get_or counts n 0 + 1) 0 lt ∙ ap (λ b. get_or counts n 0 + one_if b) (sym (of-same n)))
    within false e =
        let away : n ≢ place = λ same. let clash = sym e ∙ ap (λ m. eqb place m) same ∙ of-same place in cc in
        let far : one_if (eqb place n) ≡ 0 = ap one_if e in
        get_or-set_other counts place n (get_or counts place 0 + 1) 0 away ∙ (omega (arith, far))

-- no more of them begin with a kept node than there are
pub count-few : (k : Kept) (s : Reading) → Keeps k s → length s.nodes < 2 ^ 32 → (n : ℕ) → get_or k.joined n 0 < 2 ^ 64 - 1
count-few k s h few n = within (nat_lt n MOST_KEPT) refl
  where
    within : (b : Bool) → nat_lt n MOST_KEPT ≡ b → get_or k.joined n 0 < 2 ^ 64 - 1
    within true e = omega (arith, h.joined n (lt-of n MOST_KEPT e), opened-le n 0 s.nodes, few)
    within false e = let z = get_or_past k.joined n 0 (omega (arith, ge-of n MOST_KEPT e, h.fits)) in omega (arith, z)
