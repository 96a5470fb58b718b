-- A range is taken: from the front of the first hole that has enough, or above the top.
use Rattle.std.proofs.Common.{◌≡◌, ◌≢◌, ℕ, zero, suc, ◌+◌, ◌-◌, ◌<◌, ◌≤◌, ◌⊎◌, ⊎_elim, Bool, true, false, ◌&&◌, ◌||◌, not, nat_lt, List, [], ◌∷◌, ◌++◌, length, get_or, set, take, drop, nat_eq, if◌then◌else◌, refl, ap, sym, ◌∙◌, subst, arith, add-one}
use Rattle.std.proofs.lemmas.Bool.{and_from, or_from, or_right, le-ltb, lt-ltb, not_from_false, and_left, cases_lt, eqb-true, eqb-false, ne_eqb}
use Rattle.job_base.specs.declared.Span.{Span}
use Rattle.frame_ast.specs.Ranges.{IsFree, IsFirstFit}
use Rattle.slot_store.specs.Spaces.{no_span, len_of, start_of, end_of, rest_after, has_word, some_has, is_live, AreHoles, AreSmall}
use Rattle.slot_store.proofs.Words.{below, above, inside, within, sides, some_append, one_has, after, low_le, none_below, none_after, split, join, from_lower}

pub is_live_word : (holes : List Span) (top w : ℕ) → w < top → some_has holes w ≡ false → is_live holes top w ≡ true
is_live_word holes top w lt h = and_from _ _ (lt-ltb w top lt) (not_from_false _ h)

or_false : (b : Bool) → b ≡ (b || false)
or_false true = refl
or_false false = refl

or_mid : (a m b : Bool) → a ≡ false → b ≡ false → (a || (m || b)) ≡ m
or_mid a m b p q = subst (λ x. (x || (m || b)) ≡ m) (sym p) (subst (λ x. (m || x) ≡ m) (sym q) (sym (or_false m)))

-- the start of hole i, or the top behind the last one
abbrev pub stop_of : List Span → ℕ → ℕ → ℕ
stop_of [] i top = top
stop_of (x ∷ more) zero top = x.start
stop_of (x ∷ more) (suc i) top = stop_of more i top

pub Met : List Span → ℕ → ℕ → ℕ → Type 0
Met holes top len lower = (w : ℕ) × (lower ≤ w) × (w < lower + len) × (is_live holes top w ≡ true)

-- each start below a hole meets a live word, where no hole before it has enough
pub met : (holes : List Span) (low top len i : ℕ) → AreHoles low holes top → 0 < len → AreSmall holes len i → (lower : ℕ) → lower < stop_of holes i top
    → (w : ℕ) × (lower ≤ w) × (w < lower + len) × (w < top) × (some_has holes w ≡ false)
met [] low top len i H some small lower lt = (lower, omega arith, omega arith, lt, refl)
met (x ∷ more) low top len zero H some small lower lt =
    let t = low_le more (suc (x.start + x.len)) top H.1.1 in (
      lower,
      omega arith,
      omega arith,
      omega arith,
      or_from _ _ (below x lower lt)
          (none_below more (suc (x.start + x.len)) top lower H.1.1 (omega arith)),
    )
met (x ∷ more) low top len (suc i) H some small lower lt =
    let t = low_le more (suc (x.start + x.len)) top H.1.1 in
    let s : x.len < len = small 0 (omega arith) in
    ⊎_elim (λ a. (
      lower,
      omega arith,
      omega arith,
      omega arith,
      or_from _ _ (below x lower a)
          (none_below more (suc (x.start + x.len)) top lower H.1.1 (omega arith)),
    ))
    (λ b. ⊎_elim (λ c. let r = met more (suc (x.start + x.len)) top len i H.1.1 some (λ k h. small (suc k) (omega arith)) lower lt in
    let r1 = r.1 in (r.0, r.1, r.2, r.3, or_from _ _ (above x r.0 (omega arith)) r.4))
    (λ c. (
      x.start + x.len,
      omega arith,
      omega arith,
      omega arith,
      or_from _ _ (above x (x.start + x.len) (omega arith))
          (none_below more (suc (x.start + x.len)) top (x.start + x.len) H.1.1 (omega arith)),
    ))
    (cases_lt (x.start + x.len) lower))
    (cases_lt lower x.start)

both_ways : (b : Bool) → b ≡ true → b ≡ false → ⊥
both_ways true p q = cc
both_ways false p q = cc

pub lowest : (holes : List Span) (top len i : ℕ) → AreHoles 0 holes top → 0 < len → AreSmall holes len i → (lower : ℕ) → lower < stop_of holes i top
    → IsFree (is_live holes top) lower len → ⊥
lowest holes top len i H some small lower lt free =
    let r = met holes 0 top len i H some small lower lt in both_ways (is_live holes top r.0) (is_live_word holes top r.0 r.3 r.4) (free r.0 r.1 r.2)

pub stop_at : (holes : List Span) (i top : ℕ) → i < length holes → stop_of holes i top ≡ start_of holes i
stop_at [] i top lt = absurd (omega arith)
stop_at (x ∷ more) zero top lt = refl
stop_at (x ∷ more) (suc i) top lt = stop_at more i top (omega arith)

pub stop_end : (holes : List Span) (top : ℕ) → stop_of holes (length holes) top ≡ top
stop_end [] top = refl
stop_end (x ∷ more) top = stop_end more top

-- what is taken from hole i is first fit
pub fit_in_hole : (holes : List Span) (top len i : ℕ) → AreHoles 0 holes top → 0 < len → AreSmall holes len i → i < length holes → len ≤ len_of holes i
    → IsFirstFit (is_live holes top) len (start_of holes i)
fit_in_hole holes top len i H some small lt enough = record {
  free = λ w a b. not_live w (one_has holes i w lt (inside (get_or holes i no_span) w a (omega arith)));
  lowest = λ lower l free. lowest holes top len i H some small lower (let e = stop_at holes i top lt in omega arith) free;
}
  where
    not_live : (w : ℕ) → some_has holes w ≡ true → is_live holes top w ≡ false
    not_live w h = subst (λ b. (nat_lt w top && not b) ≡ false) (sym h) (dead (nat_lt w top))
      where
        dead : (b : Bool) → (b && false) ≡ false
        dead true = refl
        dead false = refl

-- and so is what is taken above the top
pub fit_above : (holes : List Span) (top len : ℕ) → AreHoles 0 holes top → 0 < len → AreSmall holes len (length holes) → IsFirstFit (is_live holes top) len top
fit_above holes top len H some small = record {
  free = λ w a b. and_left _ _ (le-ltb w top a);
  lowest = λ lower l free. lowest holes top len (length holes) H some small lower (let e = stop_end holes top in omega arith) free;
}

-- the words above the top
pub live_above : (holes : List Span) (top len w : ℕ) → AreHoles 0 holes top
    → is_live holes (top + len) w ≡ (is_live holes top w || has_word (record { start = top; len = len }) w)
live_above holes top len w H = ⊎_elim
    (λ a. ap (λ b. b && not (some_has holes w)) (lt-ltb w (top + len) (omega arith))
    ∙ (sym (ap (λ b. b && not (some_has holes w)) (lt-ltb w top a)) ∙
    (or_false (is_live holes top w) ∙ ap (λ b. is_live holes top w || b) (sym (below (record { start = top; len = len }) w a)))))
    (λ a. ⊎_elim
    (λ b. and_from _ _ (lt-ltb w (top + len) b) (not_from_false _ (beyond a)) ∙ sym (or_right _ _ (inside (record { start = top; len = len }) w a b)))
    (λ b. and_left _ _ (le-ltb w (top + len) b) ∙ sym (or_from _ _ (and_left _ _ (le-ltb w top a)) (above (record { start = top; len = len }) w b)))
    (cases_lt w (top + len)))
    (cases_lt w top)
  where
    beyond_from : (hs : List Span) (low : ℕ) → AreHoles low hs top → top ≤ w → some_has hs w ≡ false
    beyond_from [] low K le = refl
    beyond_from (x ∷ more) low K le = let t = low_le more (suc (x.start + x.len)) top K.1.1 in
        or_from _ _ (above x w (omega arith)) (beyond_from more (suc (x.start + x.len)) K.1.1 le)

    beyond : top ≤ w → some_has holes w ≡ false
    beyond le = beyond_from holes 0 H le

pub at_place : (xs : List Span) (i : ℕ) → i < length xs → xs ≡ take i xs ++ get_or xs i no_span ∷ drop (suc i) xs
at_place [] i lt = absurd (omega arith)
at_place (x ∷ xs) zero lt = refl
at_place (x ∷ xs) (suc i) lt = ap (λ l. x ∷ l) (at_place xs i (omega arith))

pub set_place : (xs : List Span) (i : ℕ) (y : Span) → i < length xs → set xs i y ≡ take i xs ++ y ∷ drop (suc i) xs
set_place [] i y lt = absurd (omega arith)
set_place (x ∷ xs) zero y lt = refl
set_place (x ∷ xs) (suc i) y lt = ap (λ l. x ∷ l) (set_place xs i y (omega arith))

-- A hole x between two lists of holes loses its first n words.
module _ (front back : List Span) (x : Span) (top n : ℕ) (H : AreHoles 0 (front ++ x ∷ back) top) (some : 0 < n) (enough : n ≤ x.len) where
  parts : AreHoles 0 front (after 0 front) × AreHoles (after 0 front) (x ∷ back) top
  parts = split front (x ∷ back) 0 top H

  abbrev taken : Span
  taken = record { start = x.start; len = n }

  abbrev rest : Span
  rest = record { start = x.start + n; len = x.len - n }

  pub cut_holes : AreHoles 0 (front ++ (rest_after x n ++ back)) top
  cut_holes = elim (nat_eq x.len n) as (λ b. nat_eq x.len n ≡ b → AreHoles 0 (front ++ ((if b then [] else rest ∷ []) ++ back)) top) [
    | true ↦ λ q. let p : after 0 front ≤ x.start = parts.1.0 in join front back 0 top parts.0
        (from_lower back (suc (x.start + x.len)) (after 0 front) top parts.1.1.1 (omega arith))
    | false ↦ λ q. let p : after 0 front ≤ x.start = parts.1.0 in
        let ne : x.len ≢ n = eqb-false x.len n q in
        let e : (x.start + n) + (x.len - n) ≡ x.start + x.len = omega arith in
        join front (rest ∷ back) 0 top parts.0 (omega arith, (omega arith, subst (λ m. AreHoles (suc m) back top) (sym e) parts.1.1.1))
  ] refl

  -- the holes that stay in place of x have the words of x behind those taken
  cut : (mid : List Span) (w : ℕ) → (has_word taken w ≡ true → some_has mid w ≡ false) → (has_word taken w ≡ false → some_has mid w ≡ has_word x w)
      → is_live (front ++ (mid ++ back)) top w ≡ (is_live (front ++ x ∷ back) top w || has_word taken w)
  cut mid w gone stays = ⊎_elim
      (λ i. let t : has_word taken w ≡ true = inside taken w i.0 i.1 in
      let top_le = low_le back (suc (x.start + x.len)) top parts.1.1.1 in
      let low = parts.1.0 in
      is_live_word (front ++ (mid ++ back)) top w (omega arith)
      (some_append front (mid ++ back) w ∙ or_from _ _ (none_after front 0 w parts.0 (omega arith))
      (some_append mid back w ∙ or_from _ _ (gone t) (none_below back (suc (x.start + x.len)) top w parts.1.1.1 (omega arith)))) ∙ sym (or_right _ _ t))
      (λ o. let t : has_word taken w ≡ false = ⊎_elim (λ a. below taken w a) (λ a. above taken w a) o in
      ap (λ b. nat_lt w top && not b) (some_append front (mid ++ back) w ∙
      (ap (λ b. some_has front w || b) (some_append mid back w ∙ ap (λ b. b || some_has back w) (stays t)) ∙ sym (some_append front (x ∷ back) w)))
      ∙ (or_false (is_live (front ++ x ∷ back) top w) ∙ ap (λ b. is_live (front ++ x ∷ back) top w || b) (sym t))) (sides taken w)

  same : (w : ℕ) → has_word taken w ≡ false → ((x.start ≤ w) × (w < x.start + n)) ⊎ ((w < x.start) ⊎ (x.start + n ≤ w)) → has_word rest w ≡ has_word x w
  same w f s = ⊎_elim (λ i. absurd (both_ways (has_word taken w) (inside taken w i.0 i.1) f))
      (λ o. ⊎_elim (λ a. below rest w (omega arith) ∙ sym (below x w a))
      (λ a. ⊎_elim (λ c. inside rest w a (omega arith) ∙ sym (inside x w (omega arith) c)) (λ c. above rest w (omega arith) ∙ sym (above x w c))
      (cases_lt w (x.start + x.len))) o) s

  pub cut_live : (w : ℕ) → is_live (front ++ (rest_after x n ++ back)) top w ≡ (is_live (front ++ x ∷ back) top w || has_word taken w)
  cut_live w = elim (nat_eq x.len n) as (λ b. nat_eq x.len n ≡ b → is_live (front ++ ((if b then [] else rest ∷ []) ++ back)) top w ≡
      (is_live (front ++ x ∷ back) top w || has_word taken w)) [
        | true ↦ λ q. cut [] w (λ t. refl) (λ f. sym (ap (λ m. has_word (record { start = x.start; len = m }) w) (eqb-true x.len n q) ∙ f))
        | false ↦ λ q. cut (rest ∷ []) w (λ t. let i = within taken w t in or_from _ _ (below rest w (omega arith)) refl)
            (λ f. sym (or_false (has_word rest w)) ∙ same w f (sides taken w))
      ] refl

-- the same at a place of the list
pub cut_at : (xs : List Span) (i n top : ℕ) → AreHoles 0 xs top → i < length xs → 0 < n → n ≤ len_of xs i
    → AreHoles 0 (take i xs ++ (rest_after (get_or xs i no_span) n ++ drop (suc i) xs)) top
cut_at xs i n top H lt some enough = cut_holes (take i xs) (drop (suc i) xs) (get_or xs i no_span) top n
    (subst (λ l. AreHoles 0 l top) (at_place xs i lt) H) some enough

pub cut_live_at : (xs : List Span) (i n top : ℕ) → AreHoles 0 xs top → i < length xs → 0 < n → n ≤ len_of xs i → (w : ℕ)
    → is_live (take i xs ++ (rest_after (get_or xs i no_span) n ++ drop (suc i) xs)) top w ≡
    (is_live xs top w || has_word (record { start = start_of xs i; len = n }) w)
cut_live_at xs i n top H lt some enough w = cut_live (take i xs) (drop (suc i) xs) (get_or xs i no_span) top n
    (subst (λ l. AreHoles 0 l top) (at_place xs i lt) H) some enough w ∙ ap (λ l. is_live l top w || has_word (record { start = start_of xs i; len = n }) w)
    (sym (at_place xs i lt))

-- where a hole ends
pub end_below : (xs : List Span) (low i top : ℕ) → AreHoles low xs top → i < length xs → end_of xs i < top
end_below [] low i top H lt = absurd (omega arith)
end_below (x ∷ xs) low zero top H lt = let t = low_le xs (suc (x.start + x.len)) top H.1.1 in omega arith
end_below (x ∷ xs) low (suc i) top H lt = end_below xs (suc (x.start + x.len)) i top H.1.1 (omega arith)

pub same_hole : (xs : List Span) (i : ℕ) (x : Span) → i < length xs → x ≡ get_or xs i x → get_or xs i no_span ≡ x
same_hole [] i x lt e = absurd (omega arith)
same_hole (y ∷ xs) zero x lt e = sym e
same_hole (y ∷ xs) (suc i) x lt e = same_hole xs i x (omega arith) e

pub set_rest : (xs : List Span) (i n : ℕ) (x : Span) → i < length xs → x ≡ get_or xs i x → x.len ≢ n
    → set xs i (record { start = x.start + n; len = x.len - n }) ≡ take i xs ++ (rest_after (get_or xs i no_span) n ++ drop (suc i) xs)
set_rest xs i n x lt e ne = subst (λ y. set xs i (record { start = x.start + n; len = x.len - n }) ≡ take i xs ++ (rest_after y n ++ drop (suc i) xs))
    (sym (same_hole xs i x lt e))
    (subst (λ b. set xs i (record { start = x.start + n; len = x.len - n }) ≡ take i xs
    ++ ((if b then [] else (record { start = x.start + n; len = x.len - n }) ∷ []) ++ drop (suc i) xs)) (sym (ne_eqb x.len n ne))
    (set_place xs i (record { start = x.start + n; len = x.len - n }) lt))

-- what `take` finds in the holes that it was given
pub cut_of : (xs ys zs : List Span) (i n top : ℕ) (x : Span) → AreHoles 0 xs top → ys ≡ xs → i < length ys → 0 < n → n ≤ len_of ys i
    → zs ≡ take i xs ++ (rest_after (get_or xs i no_span) n ++ drop (i + 1) xs) → AreHoles 0 zs top
cut_of xs ys zs i n top x H e lt some enough q = subst (λ l. AreHoles 0 l top) (sym q)
    (rw add-one (cut_at xs i n top H (subst (λ l. i < length l) e lt) some (subst (λ l. n ≤ len_of l i) e enough)))

pub cut_live_of : (xs ys zs : List Span) (i n top : ℕ) (x : Span) → AreHoles 0 xs top → ys ≡ xs → i < length ys → 0 < n → n ≤ len_of ys i → x ≡ get_or xs i x
    → zs ≡ take i xs ++ (rest_after (get_or xs i no_span) n ++ drop (i + 1) xs) → (w : ℕ)
    → is_live zs top w ≡ (is_live xs top w || has_word (record { start = x.start; len = n }) w)
cut_live_of xs ys zs i n top x H e lt some enough r q w = let l : i < length xs = subst (λ l. i < length l) e lt in
    subst (λ l. is_live l top w ≡ (is_live xs top w || has_word (record { start = x.start; len = n }) w)) (sym q)
    (subst (λ y. is_live (take i xs ++ (rest_after (get_or xs i no_span) n ++ drop (i + 1) xs)) top w ≡
    (is_live xs top w || has_word (record { start = y.start; len = n }) w)) (same_hole xs i x l r)
    (rw add-one (cut_live_at xs i n top H l some (subst (λ l. n ≤ len_of l i) e enough) w)))

pub fit_of : (xs ys : List Span) (i n top : ℕ) (x : Span) → AreHoles 0 xs top → ys ≡ xs → i < length ys → 0 < n → n ≤ len_of ys i → AreSmall ys n i
    → x ≡ get_or xs i x → IsFirstFit (is_live xs top) n x.start
fit_of xs ys i n top x H e lt some enough small r = let l : i < length xs = subst (λ l. i < length l) e lt in
    subst (λ y. IsFirstFit (is_live xs top) n y.start) (same_hole xs i x l r)
    (fit_in_hole xs top n i H some (subst (λ l. AreSmall l n i) e small) l (subst (λ l. n ≤ len_of l i) e enough))
