-- The reader keeps of each reading what it is to keep, step by step.
use Rattle.std.proofs.Common.{◌≡◌, ℕ, suc, ◌-◌, ◌+◌, ◌<◌, ◌≤◌, ◌^◌, ◌==◌, nat_lt, min, Bool, true, false, ◌&&◌, if◌then◌else◌, List, [], ◌∷◌, ◌++◌, length, Option, None, refl, sym, ◌∙◌, ap, subst, arith, take_all, length-append}
use Rattle.std.specs.Prelude.{is_none}
use Rattle.std.proofs.lemmas.List.{take-append-le}
use Rattle.frame_grammar.specs.declared.symbols.Event.{Event}
use Rattle.kernel_raw.specs.declared.raw.RawParam.{RawParam}
use Rattle.kernel_raw.specs.declared.raw.TheConstants.{MOST_KEPT}
use Rattle.kernel_raw.specs.declared.part.Part.{Part}
use Rattle.kernel_raw.specs.declared.part.Part.TheVariants as part
use Rattle.kernel_raw.specs.Edges.{opened, AreKeptOf}
use Rattle.kernel_raw.specs.Reading.{Reading, part_of, with_part, param_with, described, begun, change, named, numbered, top, step, nothing_read}
use Rattle.kernel_raw.specs.Keeping.{Kept, showing, with_last, first_at, joint_with, begun_late, begun_kept, kept_begun, is_outside, kept_part, kept_step, nothing_kept}
use Rattle.kernel_raw.proofs.Reading.Readings.{blank}
use Rattle.kernel_raw.proofs.Reading.Keeping.{first_in, IsBelow, joins, Keeps, by_test, if_false, lt-of, ge-of, of-ge, of-other, capped-same, with-alike, with-top, with-below, with-joins, none-below, late-moved, no-late, get-front, get-seam, opened-append, sized-length, sized-at}
use Rattle.kernel_raw.proofs.Reading.KeepingChanges.{change-keeps}

-- PARAMETERS

-- the parameters are these, and that one is being read
param-keeps : (k : Kept) (s : Reading) (ps qs : List RawParam) (p q : RawParam) → Keeps k s → ps ≡ qs → p ≡ q →
    Keeps (showing (record k.shown { params = ps; param = p }) k) (record s { params = qs; param = q })
param-keeps k s ps qs p q h are is = record {
  lates = h.lates;
  params = are;
  param = is;
  nodes = h.nodes;
  last = h.last;
  count = h.count;
  are_open = h.are_open;
  early = h.early;
  late = h.late;
  are_late = h.are_late;
  below = h.below;
  alone = h.alone;
  joined = h.joined;
  room = h.room;
  fits = h.fits;
}

described-keeps : (p : Part) (q : ℕ) (k : Kept) (s : Reading) → Keeps k s → Keeps (showing (described p q k.shown) k) (described p q s)
described-keeps p q k s h = param-keeps k s k.shown.params s.params (param_with p q k.shown.param) (param_with p q s.param) h h.params
    (ap (param_with p q) h.param)

-- NODES THAT BEGIN

begun-kept : (k : Kept) (s : Reading) (at : ℕ) (owner : Option ℕ) (before last last' : ℕ) → Keeps k s → k.count < MOST_KEPT → last ≡ min MOST_KEPT last' →
    Keeps (with_last last (begun_kept at owner before k)) (record (begun at owner before s) { last = last' })
begun-kept k s at owner before last last' h few is =
    let short : length s.nodes < MOST_KEPT = omega (arith, h.count, few) in
    let none = no-late s.nodes k.joint (length s.nodes) h.lates h.are_late (omega (arith, short)) in
    let all : k.shown.nodes ≡ s.nodes = h.nodes ∙ take_all MOST_KEPT s.nodes (omega (arith, short)) in
    let x = blank at at owner before in
    let longer = length-append s.nodes (x ∷ []) in
    record {
      lates = [];
      params = h.params;
      param = h.param;
      nodes = ap (λ ns. ns ++ x ∷ []) all ∙ sym (take_all MOST_KEPT (s.nodes ++ x ∷ []) (omega (arith, longer, short)));
      last = is;
      count = omega (arith, h.count, longer);
      are_open = (λ i. length (sym all i) ∷ (h.are_open ∙ ap (λ ns. ns ++ k.shown.opened) none) i);
      early = (omega (arith, ap length all, short), h.early);
      late = h.late ∙ ap length none;
      are_late = tt;
      below = subst (λ ns. IsBelow k.joint (length ns)) none h.below;
      alone = (λ lt. none-below k.joint (subst (λ ns. IsBelow k.joint (length ns)) none h.below));
      joined = (λ n lt.
          let e = h.joined n lt in
          let a = ap (opened n 0) all in
          let b = ap (λ ns. opened n 0 (ns ++ x ∷ [])) all in
          omega (arith, a, b, e));
      room = (λ more. absurd (omega (arith, few, more)));
      fits = h.fits;
    }

begun-late : (k : Kept) (s : Reading) (at : ℕ) (owner : Option ℕ) (before first last last' : ℕ) → Keeps k s → MOST_KEPT ≤ k.count →
    min MOST_KEPT (length s.nodes - before) ≡ min MOST_KEPT first → (first < MOST_KEPT → k.joint ≡ None) → last ≡ min MOST_KEPT last' →
    (last < MOST_KEPT → joint_with k.joint (k.late + 1) first ≡ None) →
    Keeps (with_last last (begun_late first k)) (record (begun at owner before s) { last = last' })
begun-late k s at owner before first last last' h many same none is alone =
    let n = length s.nodes in
    let x = blank at at owner before in
    let longer = length-append s.nodes (x ∷ []) in
    let most : MOST_KEPT ≤ n = omega (arith, h.count, many) in
    let height : k.late + 1 ≡ suc (length h.lates) = omega (arith, h.late) in
    let above : length h.lates < k.late + 1 = omega (arith, h.late) in
    record {
      lates = n ∷ h.lates;
      params = h.params;
      param = h.param;
      nodes = h.nodes ∙ sym (take-append-le MOST_KEPT s.nodes (x ∷ []) most);
      last = is;
      count = omega (arith, h.count, longer);
      are_open = ap (λ os. n ∷ os) h.are_open;
      early = h.early;
      late = omega (arith, h.late);
      are_late = (
        most,
        omega (arith, longer),
        ap (λ o. min MOST_KEPT (first_in n o)) (get-seam s.nodes x []) ∙ same ∙ sym (with-top k.joint (k.late + 1) (length h.lates) first h.below above)
            ∙ ap (first_at (joint_with k.joint (k.late + 1) first)) height,
        late-moved s.nodes (s.nodes ++ x ∷ []) k.joint (joint_with k.joint (k.late + 1) first) n h.lates (λ m lt. get-front s.nodes (x ∷ []) m lt)
            (λ m le. with-alike k.joint (k.late + 1) first m (omega (arith, le, above)) none) h.are_late,
      );
      below = subst (λ l. IsBelow (joint_with k.joint (l + 1) first) (suc (length h.lates))) (sym h.late) (with-below k.joint (length h.lates) first h.below);
      alone = alone;
      joined = (λ m lt.
          let a = sized-at k.joined m lt in
          let b = with-joins k.joint (k.late + 1) first m lt none in
          let c = opened-append m 0 s.nodes x in
          let d = capped-same MOST_KEPT (0 + n - before) first m lt (omega (arith, same)) in
          let e = h.joined m lt in
          omega (arith, a, b, c, d, e));
      room = (λ more. omega (arith, sized-length k.joined h.fits));
      fits = omega (arith, sized-length k.joined h.fits);
    }

begun-plain : (k : Kept) (s : Reading) (at : ℕ) (owner owner' : Option ℕ) → Keeps k s → (k.count < MOST_KEPT → owner ≡ owner') →
    Keeps (kept_begun at owner 0 k) (begun at owner' 0 s)
begun-plain k s at owner owner' h same =
    by_test (λ x. Keeps x (begun at owner' 0 s)) (nat_lt k.count MOST_KEPT) (begun_kept at owner 0 k) (begun_late (k.count - 0) k)
    (λ e.
    let few = lt-of k.count MOST_KEPT e in
    subst (λ o. Keeps (begun_kept at o 0 k) (begun at owner' 0 s)) (sym (same few)) (begun-kept k s at owner' 0 k.shown.last s.last h few h.last))
    (λ e.
    let many = ge-of k.count MOST_KEPT e in
    let far : MOST_KEPT ≤ k.count - 0 = omega (arith, many) in
    begun-late k s at owner' 0 (k.count - 0) k.shown.last s.last h many (omega (arith, h.count)) (λ lt. absurd (omega (arith, lt, many))) h.last
    (λ lt. if_false (nat_lt (k.count - 0) MOST_KEPT) _ k.joint (of-ge (k.count - 0) MOST_KEPT far) ∙ h.alone lt))

operator-keeps : (k : Kept) (s : Reading) (q : ℕ) → Keeps k s → Keeps (kept_part part.Operator q k) (with_part part.Operator q s)
operator-keeps k s q h =
    let own = min MOST_KEPT k.count in
    let is : own ≡ min MOST_KEPT (length s.nodes) = ap (min MOST_KEPT) h.count in
    let before = k.count - k.shown.last in
    by_test (λ x. Keeps (with_last own x) (with_part part.Operator q s)) (nat_lt k.count MOST_KEPT) (begun_kept q None before k)
    (begun_late (k.count - before) k)
    (λ e.
    let few = lt-of k.count MOST_KEPT e in
    let same : length s.nodes - s.last ≡ before = omega (arith, h.count, h.last, few) in
    subst (λ b. Keeps (with_last own (begun_kept q None b k)) (with_part part.Operator q s)) same
    (begun-kept k s q None (length s.nodes - s.last) own (length s.nodes) h few is))
    (λ e.
    let many = ge-of k.count MOST_KEPT e in
    begun-late k s q None (length s.nodes - s.last) (k.count - before) own (length s.nodes) h many (omega (arith, h.count, h.last, many))
    (λ lt. h.alone (omega (arith, lt, many))) is (λ lt. absurd (omega (arith, lt, many))))

-- NAMES AND NUMBERS

outside-both : (lates os : List ℕ) → (is_none (top os) && length lates == 0) ≡ is_none (top (lates ++ os))
outside-both [] [] = refl
outside-both [] (o ∷ os) = refl
outside-both (n ∷ ns) [] = of-other (suc (length ns)) 0 (omega arith)
outside-both (n ∷ ns) (o ∷ os) = refl

outside-same : (k : Kept) (s : Reading) → Keeps k s → is_outside k ≡ is_none (top s.opened)
outside-same k s h =
    ap (λ l. is_none (top k.shown.opened) && l == 0) h.late ∙ outside-both h.lates k.shown.opened ∙ sym (ap (λ os. is_none (top os)) h.are_open)

numbered-is : (os : List ℕ) (q : ℕ) (s : Reading) → numbered os q s ≡ (if is_none (top os) then described part.Number q s else begun q None 0 s)
numbered-is [] q s = refl
numbered-is (o ∷ os) q s = refl

named-is : (os : List ℕ) (q : ℕ) (s : Reading) → named os q s ≡ (if is_none (top os) then described part.Name q s else change part.Name q s)
named-is [] q s = refl
named-is (o ∷ os) q s = refl

both-keep : (b : Bool) (k k' : Kept) (s s' : Reading) → Keeps k s → Keeps k' s' → Keeps (if b then k else k') (if b then s else s')
both-keep true k k' s s' h h' = h
both-keep false k k' s s' h h' = h'

number-keeps : (k : Kept) (s : Reading) (q : ℕ) → Keeps k s → Keeps (kept_part part.Number q k) (with_part part.Number q s)
number-keeps k s q h =
    subst (Keeps (kept_part part.Number q k))
    (sym (numbered-is s.opened q s ∙ ap (λ b. if b then described part.Number q s else begun q None 0 s) (sym (outside-same k s h))))
    (both-keep (is_outside k) _ _ _ _ (described-keeps part.Number q k s h) (begun-plain k s q None None h (λ lt. refl)))

name-keeps : (k : Kept) (s : Reading) (q : ℕ) → Keeps k s → Keeps (kept_part part.Name q k) (with_part part.Name q s)
name-keeps k s q h =
    subst (Keeps (kept_part part.Name q k))
    (sym (named-is s.opened q s ∙ ap (λ b. if b then described part.Name q s else change part.Name q s) (sym (outside-same k s h))))
    (both-keep (is_outside k) _ _ _ _ (described-keeps part.Name q k s h) (change-keeps part.Name q k s h))

-- EVENTS

statement-keeps : (k : Kept) (s : Reading) (q : ℕ) → Keeps k s → Keeps (kept_part part.Statement q k) (with_part part.Statement q s)
statement-keeps k s q h =
    begun-plain k s q (top k.shown.opened) (top s.opened) h
    (λ few.
    let none = no-late s.nodes k.joint (length s.nodes) h.lates h.are_late (omega (arith, h.count, few)) in
    sym (ap top (h.are_open ∙ ap (λ ns. ns ++ k.shown.opened) none)))

part-keeps : (p : Part) (q : ℕ) (k : Kept) (s : Reading) → Keeps k s → Keeps (kept_part p q k) (with_part p q s)
part-keeps part.Nothing q k s h = h
part-keeps (part.Access a) q k s h = described-keeps (part.Access a) q k s h
part-keeps (part.Container c) q k s h = described-keeps (part.Container c) q k s h
part-keeps part.Stream q k s h = described-keeps part.Stream q k s h
part-keeps part.Width q k s h = described-keeps part.Width q k s h
part-keeps part.Parameter q k s h = param-keeps k s (k.shown.params ++ k.shown.param ∷ []) (s.params ++ s.param ∷ []) k.shown.param s.param h
    (λ i. h.params i ++ h.param i ∷ []) h.param
part-keeps part.Statement q k s h = statement-keeps k s q h
part-keeps part.Atom q k s h = begun-plain k s q None None h (λ lt. refl)
part-keeps part.Operator q k s h = operator-keeps k s q h
part-keeps part.Number q k s h = number-keeps k s q h
part-keeps part.Name q k s h = name-keeps k s q h
part-keeps (part.Ends f) q k s h = change-keeps (part.Ends f) q k s h
part-keeps part.Joins q k s h = change-keeps part.Joins q k s h
part-keeps (part.Closes f) q k s h = change-keeps (part.Closes f) q k s h
part-keeps part.Heads q k s h = change-keeps part.Heads q k s h
part-keeps part.Block q k s h = change-keeps part.Block q k s h
part-keeps (part.Nests f) q k s h = change-keeps (part.Nests f) q k s h
part-keeps part.Branches q k s h = change-keeps part.Branches q k s h

pub step-keeps : (k : Kept) (s : Reading) (e : Event) → Keeps k s → Keeps (kept_step k e) (step s e)
step-keeps k s e h = part-keeps (part_of e.action) e.place k s h

-- when no node is open, the kept nodes and how many join each say how all of them stand
pub are_kept : (k : Kept) (s : Reading) → Keeps k s → s.opened ≡ [] → length s.nodes < 2 ^ 32 → AreKeptOf s.nodes k.shown.nodes k.joined
are_kept k s h closed few =
    let none = no-front h.lates k.shown.opened (sym h.are_open ∙ closed) in
    let joint = none-below k.joint (subst (λ ns. IsBelow k.joint (length ns)) none h.below) in
    record {
      first = h.nodes;
      few = few;
      begin = (λ n lt. let e = h.joined n lt in let z : joins k.joint n ≡ 0 = ap (λ o. joins o n) joint in omega (arith, e, z));
    }
  where
    no-front : (ns os : List ℕ) → ns ++ os ≡ [] → ns ≡ []
    no-front [] os e = refl
    no-front (n ∷ ns) os e = cc

pub keeps-nothing : Keeps nothing_kept nothing_read
keeps-nothing = record {
  lates = [];
  params = refl;
  param = refl;
  nodes = refl;
  last = refl;
  count = refl;
  are_open = refl;
  early = tt;
  late = refl;
  are_late = tt;
  below = tt;
  alone = λ lt. refl;
  joined = λ n lt. refl;
  room = λ more. absurd (omega (arith, more));
  fits = omega arith;
}
