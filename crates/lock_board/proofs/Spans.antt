-- Spans, and the places of words in a room.
use Rattle.std.proofs.Common.{◌≡◌, ◌≢◌, ℕ, zero, suc, ◌+◌, ◌-◌, ◌<◌, ◌≤◌, ◌⊎◌, inl, inr, ⊎_elim, Bool, true, false, ◌&&◌, ◌||◌, cond, min, max, eq-eqb, ne_eqb, leb, ltb, leb-true, ltb-true, le-leb, lt-ltb, List, [], ◌∷◌, ◌++◌, length, get_or, take, drop, set, get_or-set_same, get_or-set_other, ℤ, pos, refl, sym, ap, subst, ◌∙◌, arith, Some}
use Rattle.std.specs.Prelude.{Vec, nat_eq, nat_le, nat_lt, slice_get}
use Rattle.std.proofs.lemmas.List.{take-append-drop}
use Rattle.std.specs.declared.alloc.Global.{Global}
use mathlib.Core.Logic.{dite}
use native.Mathlib.Decide.{ℕ_discrete}
use Rattle.std.proofs.Math.Seq.{drop-cons, take-suc}
use Rattle.std.proofs.lemmas.Bool.{and_from, and_parts, or_left, or_right}
use Rattle.std.proofs.lemmas.Bool.Decides.{nat_tests}
use Rattle.job_base.specs.Cells.{cells_of}
use Rattle.frame_core.specs.declared.plan.Plan.{Plan}
use Rattle.frame_core.specs.declared.touch.Touch.{Touch}
use Rattle.frame_core.specs.Effects.{touches}
use Rattle.frame_core.specs.Know.{reads, writes}
use Rattle.frame_core.specs.Pieces.{piece_numbered}
use Rattle.frame_core.specs.Touches.{counts, has_word, hits}
use Rattle.frame_core.proofs.Extents.Hitting.{hits_append, hits_read, hits_write}
use Rattle.frame_core.proofs.Small.{either_bool, not_both}
use Rattle.lock_board.specs.Layouts.{AreSpans}
use Rattle.lock_board.specs.Rooms.{hull, joined_to, meet, place_in, room_of, same, size_of, spans_of, with_touch}
use Rattle.lock_board.proofs.Reading.{got}

-- BOOLS

and_or : (c x y : Bool) → (c && (x || y)) ≡ ((c && x) || (c && y))
and_or true x y = refl
and_or false x y = refl

or_swap : (a b r : Bool) → ((a || b) || r) ≡ ((a || r) || (b || false))
or_swap true b r = refl
or_swap false true true = refl
or_swap false true false = refl
or_swap false false true = refl
or_swap false false false = refl

or_assoc : (a b c : Bool) → (a || (b || c)) ≡ ((a || b) || c)
or_assoc true b c = refl
or_assoc false b c = refl

or_last : (a b r : Bool) → ((a || (b || false)) || r) ≡ (a || (b || r))
or_last true b r = refl
or_last false true r = refl
or_last false false r = refl

or_none : (a : Bool) → a ≡ (a || false)
or_none true = refl
or_none false = refl

same_is : (a b : Bool) → same a b ≡ true → a ≡ b
same_is true b e = sym e
same_is false true e = absurd (not_both e refl)
same_is false false e = refl

-- SPANS HAVE THE SAME WORDS

within : (af ae bf be w : ℕ) → af ≤ be → bf ≤ ae
    → (nat_le (min af bf) w && nat_lt w (max ae be)) ≡ ((nat_le af w && nat_lt w ae) || (nat_le bf w && nat_lt w be))
within af ae bf be w first second = grind (arith, nat_tests)

counted : (only : Bool) (a b : Touch) → a.written ≡ b.written → counts only a ≡ counts only b
counted true a b e = e
counted false a b e = refl

module _ (only : Bool) (w : ℕ) where
  abbrev hit : Touch → Bool
  hit t = counts only t && has_word t w

  hull_hit : (a b : Touch) → meet a b ≡ true → hit (hull a b) ≡ (hit a || hit b)
  hull_hit a b m =
      let kind = and_parts (same a.written b.written) (nat_le a.from b.end && nat_le b.from a.end) m in
      let ends = and_parts (nat_le a.from b.end) (nat_le b.from a.end) kind.1 in
      let words : has_word (hull a b) w ≡ (has_word a w || has_word b w) =
      within a.from a.end b.from b.end w (leb-true a.from b.end ends.0) (leb-true b.from a.end ends.1) in
      ap (λ c. c && has_word (hull a b) w) (counted only (hull a b) a refl)
      ∙ (ap (λ x. counts only a && x) words
      ∙ (and_or (counts only a) (has_word a w) (has_word b w)
      ∙ ap (λ c. hit a || (c && has_word b w)) (counted only a b (same_is a.written b.written kind.0))))

  by_meeting : (s t : Touch) (ts : List Touch) (b : Bool) → meet s t ≡ b → hits only (with_touch ts t) w ≡ (hits only ts w || hits only (t ∷ []) w)
      → hits only (cond b (hull s t ∷ ts) (s ∷ with_touch ts t)) w ≡ ((hit s || hits only ts w) || hits only (t ∷ []) w)
  by_meeting s t ts true m rest = ap (λ b. b || hits only ts w) (hull_hit s t m) ∙ or_swap (hit s) (hit t) (hits only ts w)
  by_meeting s t ts false m rest = ap (λ b. hit s || b) rest ∙ or_assoc (hit s) (hits only ts w) (hits only (t ∷ []) w)

  more_hits : (ts : List Touch) (t : Touch) → hits only (with_touch ts t) w ≡ (hits only ts w || hits only (t ∷ []) w)
  more_hits [] t = refl
  more_hits (s ∷ ts) t = by_meeting s t ts (meet s t) refl (more_hits ts t)

  joined_hits : (spans ts : List Touch) → hits only (joined_to spans ts) w ≡ (hits only spans w || hits only ts w)
  joined_hits spans [] = or_none (hits only spans w)
  joined_hits spans (t ∷ ts) = joined_hits (with_touch spans t) ts ∙ (ap (λ b. b || hits only ts w) (more_hits spans t)
      ∙ or_last (hits only spans w) (hit t) (hits only ts w))

  pub spans_hit : (plan : Plan) (p : ℕ) → hits only (spans_of plan p) w ≡ hits only (touches plan (piece_numbered plan p)) w
  spans_hit plan p = joined_hits [] (touches plan (piece_numbered plan p))

pub spans_read : (plan : Plan) (p w : ℕ) → hits false (spans_of plan p) w ≡ reads plan p w
spans_read plan p w = spans_hit false w plan p ∙ hits_read (touches plan (piece_numbered plan p)) w

pub spans_write : (plan : Plan) (p w : ℕ) → hits true (spans_of plan p) w ≡ writes plan p w
spans_write plan p w = spans_hit true w plan p ∙ hits_write (touches plan (piece_numbered plan p)) w

-- the spans of a piece in a table of all
pub spans_here : (plan : Plan) (lists : List (Vec Touch Global)) (p : ℕ) (v : Vec Touch Global) (l : List Touch) → AreSpans plan lists → p < length lists
    → v ≡ get_or lists p v → l ≡ v.items → l ≡ spans_of plan p
spans_here plan lists p v l are low at is = is ∙ are p v (got lists p v low at)

-- ONE MORE SPAN, BY ITS INDEX

by_test : (s t : Touch) (ts : List Touch) (b : Bool) → meet s t ≡ b → with_touch (s ∷ ts) t ≡ cond b (hull s t ∷ ts) (s ∷ with_touch ts t)
by_test s t ts b m = ap (λ (c : Bool). cond c (hull s t ∷ ts) (s ∷ with_touch ts t)) m

-- The first i spans don't meet it. What is one after another is written as the code goes: by its index.
pub record Unmet (ts : List Touch) (t : Touch) (i : ℕ) : Type 0 where
  pub each : (k : ℕ) (s : Touch) → k < i → k < length ts → s ≡ get_or ts k s → meet s t ≡ false

pub one_element : (l : List Touch) (i : ℕ) (x y : Touch) → i < length l → x ≡ get_or l i x → y ≡ get_or l i y → x ≡ y
one_element [] i x y lt a b = absurd (omega arith)
one_element (z ∷ l) zero x y lt a b = a ∙ sym b
one_element (z ∷ l) (suc i) x y lt a b = one_element l i x y (omega arith) a b

pub unmet_more : (ts : List Touch) (t s : Touch) (i : ℕ) → s ≡ get_or ts i s → meet s t ≡ false → Unmet ts t i → Unmet ts t (i + 1)
unmet_more ts t s i at m u = record {
  each = λ k x lt low is. dite (ℕ_discrete k i)
      (λ e. let there : x ≡ get_or ts i x = is ∙ ap (λ n. get_or ts n x) e in
      let low' : i < length ts = subst (λ n. n < length ts) e low in
      ap (λ y. meet y t) (one_element ts i x s low' there at) ∙ m)
      (λ ne. u.each k x (omega arith) low is);
}

tail_unmet : (x : Touch) (ts : List Touch) (t : Touch) (i : ℕ) → Unmet (x ∷ ts) t (suc i) → Unmet ts t i
tail_unmet x ts t i u = record { each = λ k s lt low is. u.each (suc k) s (omega arith) (omega arith) is }

pub met_at : (ts : List Touch) (t s : Touch) (i : ℕ) → i < length ts → s ≡ get_or ts i s → meet s t ≡ true → Unmet ts t i
    → set ts i (hull s t) ≡ with_touch ts t
met_at [] t s i lt at m u = absurd (omega arith)
met_at (x ∷ ts) t s zero lt at m u = ap (λ y. hull y t ∷ ts) at ∙ sym (by_test x t ts true (ap (λ y. meet y t) (sym at) ∙ m))
met_at (x ∷ ts) t s (suc i) lt at m u =
    ap (λ l. x ∷ l) (met_at ts t s i (omega arith) at m (tail_unmet x ts t i u))
    ∙ sym (by_test x t ts false (u.each 0 x (omega arith) (omega arith) refl))

pub met_nowhere : (ts : List Touch) (t : Touch) (i : ℕ) → length ts ≤ i → Unmet ts t i → ts ++ t ∷ [] ≡ with_touch ts t
met_nowhere [] t i le u = refl
met_nowhere (x ∷ ts) t zero le u = absurd (omega arith)
met_nowhere (x ∷ ts) t (suc i) le u =
    ap (λ l. x ∷ l) (met_nowhere ts t i (omega arith) (tail_unmet x ts t i u))
    ∙ sym (by_test x t ts false (u.each 0 x (omega arith) (omega arith) refl))

pub joined_next : (spans new ts : List Touch) (i : ℕ) (t : Touch) → i < length ts → t ≡ get_or ts i t → new ≡ with_touch spans t
    → joined_to spans (drop i ts) ≡ joined_to new (drop (i + 1) ts)
joined_next spans new ts i t lt at is =
    let up : suc i ≡ i + 1 = omega arith in
    ap (joined_to spans) (drop-cons ts i t lt)
    ∙ (ap (λ x. joined_to (with_touch spans x) (drop (suc i) ts)) (sym at)
    ∙ (ap (λ l. joined_to l (drop (suc i) ts)) (sym is) ∙ ap (λ n. joined_to new (drop n ts)) up))

-- PLACES

other_hit : (t : Touch) (ts : List Touch) (w : ℕ) → has_word t w ≡ false → hits false (t ∷ ts) w ≡ true → hits false ts w ≡ true
other_hit t ts w out h = ap (λ b. b || hits false ts w) (sym out) ∙ h

first_place : (t : Touch) (ts : List Touch) (w : ℕ) (b : Bool) → has_word t w ≡ b → place_in (t ∷ ts) w ≡ cond b (w - t.from) (size_of t + place_in ts w)
first_place t ts w b e = ap (λ (c : Bool). cond c (w - t.from) (size_of t + place_in ts w)) e

pub word_in : (t : Touch) (w : ℕ) → has_word t w ≡ true → (t.from ≤ w) × (w < t.end)
word_in t w h = let both = and_parts (nat_le t.from w) (nat_lt w t.end) h in (leb-true t.from w both.0, ltb-true w t.end both.1)

pub place_below : (ts : List Touch) (w : ℕ) → hits false ts w ≡ true → place_in ts w < room_of ts
place_below [] w h = absurd (not_both h refl)
place_below (t ∷ ts) w h = by (has_word t w) refl (λ out. place_below ts w (other_hit t ts w out h))
  where
    by : (b : Bool) → has_word t w ≡ b → (has_word t w ≡ false → place_in ts w < room_of ts) → place_in (t ∷ ts) w < size_of t + room_of ts
    by true e rest = let i = word_in t w e in let p = first_place t ts w true e in let lo = i.0 in let hi = i.1 in omega (arith, p, lo, hi)
    by false e rest = let p = first_place t ts w false e in let r = rest e in omega (arith, p, r)

pub places_differ : (ts : List Touch) (u w : ℕ) → hits false ts u ≡ true → hits false ts w ≡ true → u ≢ w → place_in ts u ≢ place_in ts w
places_differ [] u w hu hw ne = absurd (not_both hu refl)
places_differ (t ∷ ts) u w hu hw ne = by (has_word t u) (has_word t w) refl refl
    (λ a b. places_differ ts u w (other_hit t ts u a hu) (other_hit t ts w b hw) ne)
  where
    by : (a b : Bool) → has_word t u ≡ a → has_word t w ≡ b → (has_word t u ≡ false → has_word t w ≡ false → place_in ts u ≢ place_in ts w)
        → place_in (t ∷ ts) u ≢ place_in (t ∷ ts) w
    by true true d e rest q =
        let i = word_in t u d in let j = word_in t w e in let x = first_place t ts u true d in let y = first_place t ts w true e in
        let a = i.0 in let b = j.0 in absurd (ne (omega (arith, q, x, y, a, b)))
    by true false d e rest q =
        let i = word_in t u d in let x = first_place t ts u true d in let y = first_place t ts w false e in
        let a = i.0 in let b = i.1 in absurd (omega (arith, q, x, y, a, b))
    by false true d e rest q =
        let j = word_in t w e in let x = first_place t ts u false d in let y = first_place t ts w true e in
        let a = j.0 in let b = j.1 in absurd (omega (arith, q, x, y, a, b))
    by false false d e rest q =
        let x = first_place t ts u false d in let y = first_place t ts w false e in
        absurd (rest d e (omega (arith, q, x, y)))

-- a room after a store at the place of a word
pub stored_at : (ts : List Touch) (room : List ℤ) (w u : ℕ) (v : ℤ) → room_of ts ≤ length room → hits false ts w ≡ true → hits false ts u ≡ true
    → cells_of (set room (place_in ts w) v) (place_in ts u) ≡ cond (nat_eq u w) v (cells_of room (place_in ts u))
stored_at ts room w u v fits hw hu = dite (ℕ_discrete u w)
    (λ e. let low = place_below ts w hw in
    ap (λ n. cells_of (set room (place_in ts w) v) (place_in ts n)) e
    ∙ (get_or-set_same room (place_in ts w) v (pos 0) (omega (arith, low, fits))
    ∙ sym (ap (λ (b : Bool). cond b v (cells_of room (place_in ts u))) (eq-eqb u w e))))
    (λ ne. get_or-set_other room (place_in ts w) (place_in ts u) v (pos 0) (places_differ ts u w hu hw ne)
    ∙ sym (ap (λ (b : Bool). cond b v (cells_of room (place_in ts u))) (ne_eqb u w ne)))

-- words that were copied stay so, and one more is
pub copied_more : (ts : List Touch) (room cells : List ℤ) (w : ℕ) → room_of ts ≤ length room → hits false ts w ≡ true → (u : ℕ) → hits false ts u ≡ true
    → (u ≢ w → cells_of room (place_in ts u) ≡ cells_of cells u) → cells_of (set room (place_in ts w) (cells_of cells w)) (place_in ts u) ≡ cells_of cells u
copied_more ts room cells w fits hw u hu before = stored_at ts room w u (cells_of cells w) fits hw hu ∙ dite (ℕ_discrete u w)
    (λ e. ap (λ (b : Bool). cond b (cells_of cells w) (cells_of room (place_in ts u))) (eq-eqb u w e) ∙ ap (cells_of cells) (sym e))
    (λ ne. ap (λ (b : Bool). cond b (cells_of cells w) (cells_of room (place_in ts u))) (ne_eqb u w ne) ∙ before ne)

-- BY THE INDEX OF A SPAN

pub hits_at : (only : Bool) (ts : List Touch) (i : ℕ) (d : Touch) (w : ℕ) → i < length ts → counts only (get_or ts i d) ≡ true → (get_or ts i d).from ≤ w
    → w < (get_or ts i d).end → hits only ts w ≡ true
hits_at only [] i d w lt c lo hi = absurd (omega (arith, lt))
hits_at only (t ∷ ts) zero d w lt c lo hi =
    or_left (counts only t && has_word t w) (hits only ts w) (and_from (counts only t) (has_word t w) c
    (and_from (leb t.from w) (ltb w t.end) (le-leb t.from w lo) (lt-ltb w t.end hi)))
hits_at only (t ∷ ts) (suc i) d w lt c lo hi = or_right (counts only t && has_word t w) (hits only ts w) (hits_at only ts i d w (omega (arith, lt)) c lo hi)

-- the first ones, and one more
pub hits_next : (only : Bool) (ts : List Touch) (i : ℕ) (d : Touch) (w : ℕ) → i < length ts
    → hits only (take (i + 1) ts) w ≡ (hits only (take i ts) w || (counts only (get_or ts i d) && has_word (get_or ts i d) w))
hits_next only ts i d w lt =
    let up : i + 1 ≡ suc i = omega arith in
    ap (λ n. hits only (take n ts) w) up
    ∙ (ap (λ l. hits only l w) (take-suc ts i d lt)
    ∙ (hits_append only (take i ts) (get_or ts i d ∷ []) w
    ∙ ap (λ b. hits only (take i ts) w || b) (sym (or_none (counts only (get_or ts i d) && has_word (get_or ts i d) w)))))

pub hits_taken : (only : Bool) (ts : List Touch) (i w : ℕ) → hits only (take i ts) w ≡ true → hits only ts w ≡ true
hits_taken only ts i w h =
    ap (λ l. hits only l w) (sym (take-append-drop i ts)) ∙ (hits_append only (take i ts) (drop i ts) w
    ∙ or_left (hits only (take i ts) w) (hits only (drop i ts) w) h)

-- there is an element below the length
there : {A : Type 0} (l : List A) (i : ℕ) → i < length l → (x : A) × (slice_get l i ≡ Some x)
there [] i lt = absurd (omega (arith, lt))
there (x ∷ l) zero lt = (x, refl)
there (x ∷ l) (suc i) lt = there l i (omega (arith, lt))

pub room_there : (plan : Plan) (lists : List (Vec Touch Global)) (room : ℕ) → AreSpans plan lists
    → ((p : ℕ) (v : Vec Touch Global) → slice_get lists p ≡ Some v → room_of v.items ≤ room)
    → (p : ℕ) → p < length lists → room_of (spans_of plan p) ≤ room
room_there plan lists room are all p lt = let x = there lists p lt in subst (λ l. room_of l ≤ room) (are p x.0 x.1) (all p x.0 x.1)

-- COPIES BACK, a span after another

or_nothing : (a c : Bool) → (a || (c && false)) ≡ a
or_nothing true c = refl
or_nothing false true = refl
or_nothing false false = refl

below_or : (a b : ℕ) → (a < b) ⊎ (b ≤ a)
below_or a b = grind arith

outside : (t : Touch) (w : ℕ) → has_word t w ≡ false → (w < t.from) ⊎ (t.end ≤ w)
outside t w e = ⊎_elim inl
    (λ lo. ⊎_elim (λ hi. absurd (not_both (and_from (leb t.from w) (ltb w t.end) (le-leb t.from w lo) (lt-ltb w t.end hi)) e)) inr (below_or w t.end))
    (below_or w t.from)

module _ (ts : List Touch) (room old now : List ℤ) (i : ℕ) (d : Touch) (low : i < length ts)
    (done : (u : ℕ) → cells_of now u ≡ cond (hits true (take i ts) u) (cells_of room (place_in ts u)) (cells_of old u)) where
  abbrev t : Touch
  t = get_or ts i d

  kept : (u : ℕ) → hits true (take (i + 1) ts) u ≡ hits true (take i ts) u
      → cells_of now u ≡ cond (hits true (take (i + 1) ts) u) (cells_of room (place_in ts u)) (cells_of old u)
  kept u e = done u ∙ ap (λ (b : Bool). cond b (cells_of room (place_in ts u)) (cells_of old u)) (sym e)

  pub not_copied : t.written ≡ false → (u : ℕ) → cells_of now u ≡ cond (hits true (take (i + 1) ts) u) (cells_of room (place_in ts u)) (cells_of old u)
  not_copied read u = kept u (hits_next true ts i d u low ∙ (ap (λ (b : Bool). hits true (take i ts) u || (b && has_word t u)) read
      ∙ sym (or_none (hits true (take i ts) u))))

  pub copied_out : (new : List ℤ) → t.written ≡ true → ((u : ℕ) → t.from ≤ u → u < t.end → cells_of new u ≡ cells_of room (place_in ts u))
      → ((u : ℕ) → u < t.from → cells_of new u ≡ cells_of now u) → ((u : ℕ) → t.end ≤ u → cells_of new u ≡ cells_of now u)
      → (u : ℕ) → cells_of new u ≡ cond (hits true (take (i + 1) ts) u) (cells_of room (place_in ts u)) (cells_of old u)
  copied_out new written inside before behind u = ⊎_elim
      (λ e. let b = word_in t u e in
      let hit : hits true (take (i + 1) ts) u ≡ true = hits_next true ts i d u low
      ∙ or_right (hits true (take i ts) u) (t.written && has_word t u) (and_from t.written (has_word t u) written e) in
      inside u b.0 b.1 ∙ sym (ap (λ (c : Bool). cond c (cells_of room (place_in ts u)) (cells_of old u)) hit))
      (λ e. let same : hits true (take (i + 1) ts) u ≡ hits true (take i ts) u =
      hits_next true ts i d u low ∙ (ap (λ (b : Bool). hits true (take i ts) u || (t.written && b)) e ∙ or_nothing (hits true (take i ts) u) t.written) in
      ⊎_elim (λ lt. before u lt) (λ le. behind u le) (outside t u e) ∙ kept u same)
      (either_bool (has_word t u))
