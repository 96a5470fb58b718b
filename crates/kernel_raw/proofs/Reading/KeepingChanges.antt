-- The reader keeps what it is to keep when an open node is changed.
use Rattle.std.proofs.Common.{◌≡◌, ℕ, suc, ◌-◌, ◌+◌, ◌<◌, ◌≤◌, nat_lt, min, Bool, true, false, if◌then◌else◌, List, [], ◌∷◌, ◌++◌, length, drop, set, Option, Some, None, slice_get, refl, sym, ◌∙◌, ap, subst, arith, length-set}
use Rattle.std.proofs.lemmas.List.{take-set-le}
use Rattle.kernel_raw.specs.declared.raw.RawNode.{RawNode}
use Rattle.kernel_raw.specs.declared.raw.TheConstants.{MOST_KEPT}
use Rattle.kernel_raw.specs.declared.part.Part.{Part}
use Rattle.kernel_raw.specs.declared.part.Part.TheVariants as part
use Rattle.kernel_raw.specs.Reading.{Reading, changed, replaced, replaced_if, changed_in, change, is_last, is_whole, last_after, top}
use Rattle.kernel_raw.specs.Keeping.{Kept, showing, first_at, joint_below, first_left, closed_late, late_change, kept_change}
use Rattle.kernel_raw.proofs.Reading.Keeping.{first_in, AreLate, AreEarly, IsBelow, Keeps, by_test, if_false, lt-of, ge-of, capped-same, below-alike, below-joins, below-below, below-none, none-below, late-moved, late-wider, get-set, get-take, set-take, set-get, got, opened-set, more-length, more-at}

-- AN OPEN NODE THAT IS KEPT

none-open : (ns : List ℕ) → length ns ≡ 0 → ns ≡ []
none-open [] e = refl
none-open (n ∷ ns) e = absurd (omega arith)

early-left : (b : Bool) (os : List ℕ) → AreEarly os → AreEarly (if b then drop 1 os else os)
early-left true [] h = tt
early-left true (o ∷ os) h = h.1
early-left false os h = h

last-early : (b : Bool) (at before last last' : ℕ) → at < MOST_KEPT → last ≡ min MOST_KEPT last'
    → (if b then at - before else last) ≡ min MOST_KEPT (if b then at - before else last')
last-early true at before last last' h e = omega (arith, h)
last-early false at before last last' h e = e

early-replaced : (p : Part) (k : Kept) (s : Reading) (at : ℕ) (x y : RawNode) → Keeps k s → k.late ≡ 0 → at < MOST_KEPT → slice_get s.nodes at ≡ Some x →
    Keeps (showing (replaced p at y k.shown) k) (replaced p at y s)
early-replaced p k s at x y h closed early is =
    let none = none-open h.lates (sym h.late ∙ closed) in
    let same : s.opened ≡ k.shown.opened = h.are_open ∙ ap (λ ns. ns ++ k.shown.opened) none in
    let here : slice_get k.shown.nodes at ≡ Some x = ap (λ ns. slice_get ns at) h.nodes ∙ get-take MOST_KEPT s.nodes at early ∙ is in
    record {
      lates = [];
      params = h.params;
      param = h.param;
      nodes = ap (λ ns. set ns at y) h.nodes ∙ set-take MOST_KEPT s.nodes at y;
      last = last-early (is_whole p) at y.before k.shown.last s.last early h.last;
      count = h.count ∙ sym (length-set s.nodes at y);
      are_open = ap (λ os. if is_last p then drop 1 os else os) same;
      early = early-left (is_last p) k.shown.opened h.early;
      late = closed;
      are_late = tt;
      below = subst (λ ns. IsBelow k.joint (length ns)) none h.below;
      alone = (λ lt. none-below k.joint (subst (λ ns. IsBelow k.joint (length ns)) none h.below));
      joined = (λ n lt. omega (arith, h.joined n lt, opened-set n 0 k.shown.nodes at x y here, opened-set n 0 s.nodes at x y is));
      room = h.room;
      fits = h.fits;
    }

early-found : (p : Part) (q count : ℕ) (k : Kept) (s : Reading) (at : ℕ) (found : Option RawNode) → Keeps k s → k.late ≡ 0 → at < MOST_KEPT
    → slice_get s.nodes at ≡ found →
    Keeps (showing (replaced_if p q count at found k.shown) k) (replaced_if p q count at found s)
early-found p q count k s at None h closed early is = h
early-found p q count k s at (Some x) h closed early is = early-replaced p k s at x (changed p q (count - 1 - at) x) h closed early is

early-changed : (p : Part) (q count : ℕ) (k : Kept) (s : Reading) (os : List ℕ) → Keeps k s → k.late ≡ 0 → AreEarly os →
    Keeps (showing (changed_in p q count (top os) k.shown) k) (changed_in p q count (top os) s)
early-changed p q count k s [] h closed early = h
early-changed p q count k s (at ∷ os) h closed early =
    let same : slice_get k.shown.nodes at ≡ slice_get s.nodes at = ap (λ ns. slice_get ns at) h.nodes ∙ get-take MOST_KEPT s.nodes at early.0 in
    subst (λ o. Keeps (showing (replaced_if p q count at o k.shown) k) (changed_in p q count (Some at) s)) (sym same)
    (early-found p q count k s at (slice_get s.nodes at) h closed early.0 refl)

early-change : (p : Part) (q : ℕ) (k : Kept) (s : Reading) → Keeps k s → k.late ≡ 0
    → Keeps (showing (changed_in p q k.count (top k.shown.opened) k.shown) k) (change p q s)
early-change p q k s h closed =
    let none = none-open h.lates (sym h.late ∙ closed) in
    let same : s.opened ≡ k.shown.opened = h.are_open ∙ ap (λ ns. ns ++ k.shown.opened) none in
    subst (λ os. Keeps (showing (changed_in p q k.count (top k.shown.opened) k.shown) k) (changed_in p q (length s.nodes) (top os) s)) (sym same)
    (subst (λ c. Keeps (showing (changed_in p q k.count (top k.shown.opened) k.shown) k) (changed_in p q c (top k.shown.opened) s)) h.count
    (early-changed p q k.count k s k.shown.opened h closed h.early))

-- AN OPEN LATE NODE

changed-first : (p : Part) (q behind n : ℕ) (x : RawNode) → MOST_KEPT ≤ n
    → min MOST_KEPT (n - (changed p q behind x).before) ≡ first_left p (min MOST_KEPT (n - x.before))
changed-first part.Nothing q behind n x h = refl
changed-first (part.Access a) q behind n x h = refl
changed-first (part.Container c) q behind n x h = refl
changed-first part.Stream q behind n x h = refl
changed-first part.Width q behind n x h = refl
changed-first part.Parameter q behind n x h = refl
changed-first part.Statement q behind n x h = refl
changed-first part.Atom q behind n x h = refl
changed-first part.Operator q behind n x h = refl
changed-first part.Number q behind n x h = refl
changed-first part.Name q behind n x h = refl
changed-first (part.Ends f) q behind n x h = omega (arith, h)
changed-first part.Joins q behind n x h = refl
changed-first (part.Closes f) q behind n x h = refl
changed-first part.Heads q behind n x h = refl
changed-first part.Block q behind n x h = refl
changed-first (part.Nests f) q behind n x h = refl
changed-first part.Branches q behind n x h = refl

-- a part with which no node is whole
record IsMiddle (p : Part) : Type 0 where
  whole : is_whole p ≡ false
  first : (n : ℕ) → first_left p n ≡ n

middle : (p : Part) → is_last p ≡ false → IsMiddle p
middle part.Nothing e = record { whole = refl; first = λ n. refl }
middle (part.Access a) e = record { whole = refl; first = λ n. refl }
middle (part.Container c) e = record { whole = refl; first = λ n. refl }
middle part.Stream e = record { whole = refl; first = λ n. refl }
middle part.Width e = record { whole = refl; first = λ n. refl }
middle part.Parameter e = record { whole = refl; first = λ n. refl }
middle part.Statement e = record { whole = refl; first = λ n. refl }
middle part.Atom e = record { whole = refl; first = λ n. refl }
middle part.Operator e = record { whole = refl; first = λ n. refl }
middle part.Number e = record { whole = refl; first = λ n. refl }
middle part.Name e = record { whole = refl; first = λ n. refl }
middle (part.Ends f) e = cc
middle part.Joins e = cc
middle (part.Closes f) e = cc
middle part.Heads e = record { whole = refl; first = λ n. refl }
middle part.Block e = record { whole = refl; first = λ n. refl }
middle (part.Nests f) e = cc
middle part.Branches e = cc

left-less : (p : Part) (f : ℕ) → first_left p f < MOST_KEPT → f < MOST_KEPT
left-less part.Nothing f h = h
left-less (part.Access a) f h = h
left-less (part.Container c) f h = h
left-less part.Stream f h = h
left-less part.Width f h = h
left-less part.Parameter f h = h
left-less part.Statement f h = h
left-less part.Atom f h = h
left-less part.Operator f h = h
left-less part.Number f h = h
left-less part.Name f h = h
left-less (part.Ends g) f h = absurd (omega (arith, h))
left-less part.Joins f h = h
left-less (part.Closes g) f h = h
left-less part.Heads f h = h
left-less part.Block f h = h
left-less (part.Nests g) f h = h
left-less part.Branches f h = h

-- what is known of the innermost open node, which is late
record IsInner (k : Kept) (s : Reading) (n : ℕ) (ns : List ℕ) (x : RawNode) : Type 0 where
  opened : s.opened ≡ n ∷ (ns ++ k.shown.opened)
  late : k.late ≡ suc (length ns)
  are_late : AreLate s.nodes k.joint (length s.nodes) (n ∷ ns)
  below : IsBelow k.joint (suc (length ns))
  here : slice_get s.nodes n ≡ Some x
  first : min MOST_KEPT (n - x.before) ≡ first_at k.joint k.late

-- it goes on
late-middle : (p : Part) (k : Kept) (s : Reading) (n : ℕ) (ns : List ℕ) (x y : RawNode) → Keeps k s → IsInner k s n ns x
    → min MOST_KEPT (n - y.before) ≡ first_left p (min MOST_KEPT (n - x.before)) → IsMiddle p →
    Keeps k (record s { nodes = set s.nodes n y; last = last_after p n y.before s.last })
late-middle p k s n ns x y h i first m =
    let same : min MOST_KEPT (n - y.before) ≡ min MOST_KEPT (n - x.before) = first ∙ m.first _ in
    let size = length-set s.nodes n y in
    record {
      lates = n ∷ ns;
      params = h.params;
      param = h.param;
      nodes = h.nodes ∙ sym (take-set-le MOST_KEPT s.nodes n y i.are_late.0);
      last = h.last ∙ ap (min MOST_KEPT) (sym (if_false (is_whole p) (n - y.before) s.last m.whole));
      count = h.count ∙ sym size;
      are_open = i.opened;
      early = h.early;
      late = i.late;
      are_late = (
        i.are_late.0,
        omega (arith, size, i.are_late.1),
        ap (λ o. min MOST_KEPT (first_in n o)) (set-get s.nodes n x y i.here) ∙ same ∙ i.first ∙ ap (first_at k.joint) i.late,
        late-moved s.nodes (set s.nodes n y) k.joint k.joint n ns (λ j lt. get-set s.nodes n j y lt) (λ j le. refl) i.are_late.3,
      );
      below = i.below;
      alone = h.alone;
      joined = (λ j lt.
          let e = h.joined j lt in
          let a = opened-set j 0 s.nodes n x y i.here in
          let b = capped-same MOST_KEPT (0 + n - y.before) (0 + n - x.before) j lt (omega (arith, same)) in
          omega (arith, e, a, b));
      room = h.room;
      fits = h.fits;
    }

last-late : (b : Bool) (f last last' g : ℕ) → f ≡ min MOST_KEPT g → last ≡ min MOST_KEPT last'
    → (if b then f else last) ≡ min MOST_KEPT (if b then g else last')
last-late true f last last' g e h = e
last-late false f last last' g e h = h

-- it is whole
late-closed : (p : Part) (k : Kept) (s : Reading) (n : ℕ) (ns : List ℕ) (x y : RawNode) → Keeps k s → IsInner k s n ns x
    → min MOST_KEPT (n - y.before) ≡ first_left p (min MOST_KEPT (n - x.before)) →
    Keeps (closed_late p k) (record s { nodes = set s.nodes n y; opened = drop 1 s.opened; last = last_after p n y.before s.last })
late-closed p k s n ns x y h i first =
    let f = first_at k.joint k.late in
    let left : min MOST_KEPT (n - y.before) ≡ first_left p f = first ∙ ap (first_left p) i.first in
    let size = length-set s.nodes n y in
    let joint = joint_below k.joint k.late in
    let many : MOST_KEPT < k.count = omega (arith, i.are_late.0, i.are_late.1, h.count) in
    let counted = more-length (first_left p f) k.joined in
    record {
      lates = ns;
      params = h.params;
      param = h.param;
      nodes = h.nodes ∙ sym (take-set-le MOST_KEPT s.nodes n y i.are_late.0);
      last = last-late (is_whole p) (first_left p f) k.shown.last s.last (n - y.before) (sym left) h.last;
      count = h.count ∙ sym size;
      are_open = ap (drop 1) i.opened;
      early = h.early;
      late = omega (arith, i.late);
      are_late = late-wider (set s.nodes n y) joint n (length (set s.nodes n y)) ns (omega (arith, size, i.are_late.1))
          (late-moved s.nodes (set s.nodes n y) k.joint joint n ns (λ j lt. get-set s.nodes n j y lt)
          (λ j le. below-alike k.joint k.late j (omega (arith, le, i.late))) i.are_late.3);
      below = subst (λ l. IsBelow (joint_below k.joint l) (length ns)) (sym i.late) (below-below k.joint (length ns) i.below);
      alone = left-alone (is_whole p);
      joined = (λ j lt.
          let e = h.joined j lt in
          let a = opened-set j 0 s.nodes n x y i.here in
          let b = capped-same MOST_KEPT (0 + n - x.before) f j lt (omega (arith, i.first)) in
          let c = capped-same MOST_KEPT (0 + n - y.before) (first_left p f) j lt (omega (arith, left)) in
          let d = more-at (first_left p f) k.joined j (omega (arith, h.room many, lt)) in
          let g = below-joins k.joint k.late j lt in
          omega (arith, e, a, b, c, d, g));
      room = (λ more. omega (arith, counted, h.room many));
      fits = omega (arith, counted, h.fits);
    }
  where
    left-alone : (b : Bool) → (if b then first_left p (first_at k.joint k.late) else k.shown.last) < MOST_KEPT → joint_below k.joint k.late ≡ None
    left-alone true lt = below-none k.joint k.late (left-less p _ lt)
    left-alone false lt = ap (λ o. joint_below o k.late) (h.alone lt)

late-replaced : (p : Part) (k : Kept) (s : Reading) (n : ℕ) (ns : List ℕ) (x y : RawNode) → Keeps k s → IsInner k s n ns x
    → min MOST_KEPT (n - y.before) ≡ first_left p (min MOST_KEPT (n - x.before)) →
    Keeps (late_change p k) (replaced p n y s)
late-replaced p k s n ns x y h i first = cases (is_last p) refl
  where
    cases : (b : Bool) → is_last p ≡ b →
        Keeps (if b then closed_late p k else k) (record s {
          nodes = set s.nodes n y;
          opened = if b then drop 1 s.opened else s.opened;
          last = last_after p n y.before s.last;
        })
    cases true e = late-closed p k s n ns x y h i first
    cases false e = late-middle p k s n ns x y h i first (middle p e)

late-changed : (p : Part) (q : ℕ) (k : Kept) (s : Reading) (lates : List ℕ) → (h : Keeps k s) → h.lates ≡ lates → 0 < k.late
    → Keeps (late_change p k) (change p q s)
late-changed p q k s [] h e some = absurd (omega (arith, some, h.late, ap length e))
late-changed p q k s (n ∷ ns) h e some =
    let are = subst (λ ls. AreLate s.nodes k.joint (length s.nodes) ls) e h.are_late in
    let found = got s.nodes n are.1 in
    let x = found.0 in
    let late : k.late ≡ suc (length ns) = h.late ∙ ap length e in
    let inner : IsInner k s n ns x = record {
      opened = h.are_open ∙ ap (λ ls. ls ++ k.shown.opened) e;
      late = late;
      are_late = are;
      below = subst (λ ls. IsBelow k.joint (length ls)) e h.below;
      here = found.1;
      first = ap (λ o. min MOST_KEPT (first_in n o)) (sym found.1) ∙ are.2 ∙ ap (first_at k.joint) (sym late);
    } in
    let y = changed p q (length s.nodes - 1 - n) x in
    let is : change p q s ≡ replaced p n y s =
    ap (λ os. changed_in p q (length s.nodes) (top os) s) inner.opened ∙ ap (λ o. replaced_if p q (length s.nodes) n o s) found.1 in
    subst (Keeps (late_change p k)) (sym is) (late-replaced p k s n ns x y h inner (changed-first p q (length s.nodes - 1 - n) n x are.0))

pub change-keeps : (p : Part) (q : ℕ) (k : Kept) (s : Reading) → Keeps k s → Keeps (kept_change p q k) (change p q s)
change-keeps p q k s h =
    by_test (λ x. Keeps x (change p q s)) (nat_lt 0 k.late) (late_change p k) (showing (changed_in p q k.count (top k.shown.opened) k.shown) k)
    (λ e. late-changed p q k s h.lates h refl (lt-of 0 k.late e))
    (λ e. let none = ge-of 0 k.late e in early-change p q k s h (omega (arith, none)))
