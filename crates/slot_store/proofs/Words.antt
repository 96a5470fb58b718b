-- Words of ranges, and what lies before and after a place in the list of holes.
use Rattle.std.proofs.Common.{◌≡◌, ℕ, zero, suc, ◌+◌, ◌<◌, ◌≤◌, ◌⊎◌, Bool, true, false, ◌||◌, List, [], ◌∷◌, ◌++◌, length, get_or, refl, ap, ◌∙◌, arith}
use Rattle.std.proofs.lemmas.Bool.{and_from, and_left, and_right, and_parts, or_from, or_left, or_right, lt-leb, le-ltb, le-leb, lt-ltb, leb-true, ltb-true}
use Rattle.job_base.specs.declared.Span.{Span}
use Rattle.slot_store.specs.Spaces.{no_span, has_word, some_has, AreHoles}

pub below : (x : Span) (w : ℕ) → w < x.start → has_word x w ≡ false
below x w lt = and_left _ _ (lt-leb x.start w lt)

pub above : (x : Span) (w : ℕ) → x.start + x.len ≤ w → has_word x w ≡ false
above x w le = and_right _ _ (le-ltb w (x.start + x.len) le)

pub inside : (x : Span) (w : ℕ) → x.start ≤ w → w < x.start + x.len → has_word x w ≡ true
inside x w a b = and_from _ _ (le-leb x.start w a) (lt-ltb w (x.start + x.len) b)

pub within : (x : Span) (w : ℕ) → has_word x w ≡ true → (x.start ≤ w) × (w < x.start + x.len)
within x w h = let p = and_parts _ _ h in (leb-true x.start w p.0, ltb-true w (x.start + x.len) p.1)

pub sides : (x : Span) (w : ℕ) → ((x.start ≤ w) × (w < x.start + x.len)) ⊎ ((w < x.start) ⊎ (x.start + x.len ≤ w))
sides x w = grind arith

pub some_append : (xs ys : List Span) (w : ℕ) → some_has (xs ++ ys) w ≡ (some_has xs w || some_has ys w)
some_append [] ys w = refl
some_append (x ∷ xs) ys w = ap (λ b. has_word x w || b) (some_append xs ys w) ∙ assoc (has_word x w) (some_has xs w) (some_has ys w)
  where
    assoc : (a b c : Bool) → (a || (b || c)) ≡ ((a || b) || c)
    assoc true b c = refl
    assoc false b c = refl

pub one_has : (xs : List Span) (k w : ℕ) → k < length xs → has_word (get_or xs k no_span) w ≡ true → some_has xs w ≡ true
one_has [] k w lt h = absurd (omega arith)
one_has (x ∷ xs) zero w lt h = or_left _ _ h
one_has (x ∷ xs) (suc k) w lt h = or_right _ _ (one_has xs k w (omega arith) h)

-- where the holes after a list of holes may begin
abbrev pub after : ℕ → List Span → ℕ
after low [] = low
after low (x ∷ more) = after (suc (x.start + x.len)) more

pub low_le : (holes : List Span) (low top : ℕ) → AreHoles low holes top → low ≤ top
low_le [] low top H = H
low_le (x ∷ more) low top H = let r = low_le more (suc (x.start + x.len)) top H.1.1 in let a = H.0 in omega arith

pub none_below : (holes : List Span) (low top w : ℕ) → AreHoles low holes top → w < low → some_has holes w ≡ false
none_below [] low top w H lt = refl
none_below (x ∷ more) low top w H lt = let a = H.0 in or_from _ _ (below x w (omega arith)) (none_below more (suc (x.start + x.len)) top w H.1.1 (omega arith))

pub none_after : (holes : List Span) (low w : ℕ) → AreHoles low holes (after low holes) → after low holes ≤ suc w → some_has holes w ≡ false
none_after [] low w H le = refl
none_after (x ∷ more) low w H le = let r = low_le more (suc (x.start + x.len)) (after (suc (x.start + x.len)) more) H.1.1 in
    or_from _ _ (above x w (omega arith)) (none_after more (suc (x.start + x.len)) w H.1.1 le)

pub split : (xs ys : List Span) (low top : ℕ) → AreHoles low (xs ++ ys) top → AreHoles low xs (after low xs) × AreHoles (after low xs) ys top
split [] ys low top H = (omega arith, H)
split (x ∷ xs) ys low top H = let r = split xs ys (suc (x.start + x.len)) top H.1.1 in ((H.0, (H.1.0, r.0)), r.1)

pub join : (xs ys : List Span) (low top : ℕ) → AreHoles low xs (after low xs) → AreHoles (after low xs) ys top → AreHoles low (xs ++ ys) top
join [] ys low top H K = K
join (x ∷ xs) ys low top H K = (H.0, (H.1.0, join xs ys (suc (x.start + x.len)) top H.1.1 K))

pub raise : (holes : List Span) (low top more : ℕ) → AreHoles low holes top → top ≤ more → AreHoles low holes more
raise [] low top more H le = omega arith
raise (x ∷ xs) low top more H le = (H.0, (H.1.0, raise xs (suc (x.start + x.len)) top more H.1.1 le))

pub from_lower : (holes : List Span) (low less top : ℕ) → AreHoles low holes top → less ≤ low → AreHoles less holes top
from_lower [] low less top H le = omega arith
from_lower (x ∷ xs) low less top H le = (let a = H.0 in omega arith, H.1)
