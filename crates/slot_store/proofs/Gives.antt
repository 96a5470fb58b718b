-- Words that were taken are free again.
use Rattle.std.proofs.Common.{◌≡◌, ◌≢◌, ℕ, zero, suc, ◌+◌, ◌-◌, ◌<◌, ◌≤◌, ⊎_elim, Bool, true, false, ◌&&◌, ◌||◌, not, nat_lt, List, [], ◌∷◌, ◌++◌, length, get_or, take, drop, refl, ap, sym, ◌∙◌, subst, arith}
use Rattle.std.proofs.lemmas.List.{take-append-drop}
use Rattle.std.proofs.Math.Seq.{drop-cons, take-suc}
use Rattle.std.proofs.lemmas.Bool.{and_left, and_right, and_parts, or_from, or_left, or_right, le-ltb, lt-ltb, ltb-true, not-true, not_from_true, not_from_false, cases_lt, both_ways}
use Rattle.job_base.specs.declared.Span.{Span}
use Rattle.slot_store.specs.Spaces.{no_span, len_of, start_of, end_of, has_word, some_has, is_live, AreHoles, IsPlace, JoinsBefore, JoinsAfter}
use Rattle.slot_store.proofs.Words.{below, above, inside, some_append, one_has, after, split, join, raise}
use Rattle.slot_store.proofs.Cuts.{at_place, end_below}

pub some_len : (xs : List Span) (low i top : ℕ) → AreHoles low xs top → i < length xs → 0 < len_of xs i
some_len [] low i top H lt = absurd (omega arith)
some_len (x ∷ xs) low zero top H lt = H.1.0
some_len (x ∷ xs) low (suc i) top H lt = some_len xs (suc (x.start + x.len)) i top H.1.1 (omega arith)

pub starts_from : (xs : List Span) (low i top : ℕ) → AreHoles low xs top → i < length xs → low ≤ start_of xs i
starts_from [] low i top H lt = absurd (omega arith)
starts_from (x ∷ xs) low zero top H lt = H.0
starts_from (x ∷ xs) low (suc i) top H lt = let r = starts_from xs (suc (x.start + x.len)) i top H.1.1 (omega arith) in let a = H.0 in omega arith

pub rising : (xs : List Span) (low i k top : ℕ) → AreHoles low xs top → i < k → k < length xs → start_of xs i < start_of xs k
rising [] low i k top H lt in_list = absurd (omega arith)
rising (x ∷ xs) low i zero top H lt in_list = absurd (omega arith)
rising (x ∷ xs) low zero (suc k) top H lt in_list = let r = starts_from xs (suc (x.start + x.len)) k top H.1.1 (omega arith) in omega arith
rising (x ∷ xs) low (suc i) (suc k) top H lt in_list = rising xs (suc (x.start + x.len)) i k top H.1.1 (omega arith) (omega arith)

-- in a list of holes, no later one starts before an earlier one
pub rises_to : (xs : List Span) (top i k : ℕ) → AreHoles 0 xs top → i ≤ k → k < length xs → start_of xs i ≤ start_of xs k
rises_to xs top i k H le lt = ⊎_elim (λ less. let r = rising xs 0 i k top H less lt in omega arith)
    (λ ge. let q : k ≡ i = omega arith in subst (λ m. start_of xs i ≤ start_of xs m) (sym q) (omega arith)) (cases_lt i k)

after_take : (xs : List Span) (low k : ℕ) → k < length xs → after low (take (suc k) xs) ≡ suc (end_of xs k)
after_take [] low k lt = absurd (omega arith)
after_take (x ∷ xs) low zero lt = refl
after_take (x ∷ xs) low (suc k) lt = after_take xs (suc (x.start + x.len)) k (omega arith)

dead : (xs : List Span) (top w : ℕ) → some_has xs w ≡ true → is_live xs top w ≡ true → ⊥
dead xs top w h l = let p = and_parts _ _ l in both_ways (some_has xs w) (not-true _ p.1) h

alg : (t f m s n b : Bool) → (t && not (f || (((m || s) || n) || b))) ≡ ((t && not ((f || m) || (n || b))) && not s)
alg false f m s n b = refl
alg true true m s n b = refl
alg true false true s n b = refl
alg true false false true true b = refl
alg true false false true false true = refl
alg true false false true false false = refl
alg true false false false true b = refl
alg true false false false false true = refl
alg true false false false false false = refl

or_false : (b : Bool) → b ≡ (b || false)
or_false true = refl
or_false false = refl

pub three : (w start s e last : ℕ) → start ≤ s → s ≤ e → e ≤ last → has_word (record { start = start; len = last - start }) w ≡
    ((has_word (record { start = start; len = s - start }) w || has_word (record { start = s; len = e - s }) w)
    || has_word (record { start = e; len = last - e }) w)
three w start s e last a b c = ⊎_elim
    (λ l. below (record { start = start; len = last - start }) w l ∙ sym (or_from _ _
    (or_from _ _ (below (record { start = start; len = s - start }) w l) (below (record { start = s; len = e - s }) w (omega arith)))
    (below (record { start = e; len = last - e }) w (omega arith))))
    (λ g. ⊎_elim
    (λ l. inside (record { start = start; len = last - start }) w g (omega arith)
    ∙ sym (or_left _ _ (or_left _ _ (inside (record { start = start; len = s - start }) w g (omega arith)))))
    (λ g2. ⊎_elim
    (λ l. inside (record { start = start; len = last - start }) w g (omega arith)
    ∙ sym (or_left _ _ (or_right _ _ (inside (record { start = s; len = e - s }) w g2 (omega arith)))))
    (λ g3. ⊎_elim
    (λ l. inside (record { start = start; len = last - start }) w g (omega arith)
    ∙ sym (or_right _ _ (inside (record { start = e; len = last - e }) w g3 (omega arith))))
    (λ g4. above (record { start = start; len = last - start }) w (omega arith)
    ∙ sym (or_from _ _ (or_from _ _ (above (record { start = start; len = s - start }) w (omega arith))
    (above (record { start = s; len = e - s }) w (omega arith))) (above (record { start = e; len = last - e }) w (omega arith))))
    (cases_lt w last))
    (cases_lt w e))
    (cases_lt w s))
    (cases_lt w start)

empty : (s w : ℕ) → has_word (record { start = s; len = s - s }) w ≡ false
empty s w = ⊎_elim (λ l. below (record { start = s; len = s - s }) w l) (λ g. above (record { start = s; len = s - s }) w (omega arith)) (cases_lt w s)

-- The words s to e, without e, are live. The first n holes start before s, and the others don't.
module _ (xs : List Span) (top s e n : ℕ) (H : AreHoles 0 xs top) (some : s < e) (live : (w : ℕ) → s ≤ w → w < e → is_live xs top w ≡ true)
    (P : IsPlace xs s n) where
  pub ends_below : e ≤ top
  ends_below = let p = and_parts _ _ (live (e - 1) (omega arith) (omega arith)) in let l = ltb-true (e - 1) top p.0 in omega arith

  ends : (k : ℕ) → k < n → end_of xs k ≤ s
  ends k lt = ⊎_elim
      (λ h. let b = P.before k lt in absurd (dead xs top s (one_has xs k s (let a = P.within in omega arith) (inside (get_or xs k no_span) s (omega arith) h))
      (live s (omega arith) some)))
      (λ h. h) (cases_lt s (end_of xs k))

  starts : (k : ℕ) → n ≤ k → k < length xs → e ≤ start_of xs k
  starts k le lt = ⊎_elim
      (λ h. let b = P.behind k le lt in let l = some_len xs 0 k top H lt in
      absurd (dead xs top (start_of xs k) (one_has xs k (start_of xs k) lt (inside (get_or xs k no_span) (start_of xs k) (omega arith) (omega arith)))
      (live (start_of xs k) b h)))
      (λ h. h) (cases_lt (start_of xs k) e)

  halves : AreHoles 0 (take n xs) (after 0 (take n xs)) × AreHoles (after 0 (take n xs)) (drop n xs) top
  halves = split (take n xs) (drop n xs) 0 top (subst (λ l. AreHoles 0 l top) (sym (take-append-drop n xs)) H)

  record Left (from start : ℕ) : Type 0 where
    gone : List Span
    is : take n xs ≡ take from xs ++ gone
    words : (w : ℕ) → some_has gone w ≡ has_word (record { start = start; len = s - start }) w
    holes : AreHoles 0 (take from xs) (after 0 (take from xs))
    low : after 0 (take from xs) ≤ start
    order : start ≤ s

  left : (from start : ℕ) → JoinsBefore xs n s from start → Left from start
  left from start j = ⊎_elim
      (λ (a, b, c). let lt : from < length xs = let v = P.within in omega arith in
      let h = split (take from xs) (get_or xs from no_span ∷ drop (suc from) xs) 0 top (subst (λ l. AreHoles 0 l top) (at_place xs from lt) H) in
      let z = some_len xs 0 from top H lt in
      let q : n ≡ suc from = omega arith in
      record {
        gone = get_or xs from no_span ∷ [];
        is = ap (λ m. take m xs) q ∙ take-suc xs from no_span lt;
        words = λ w. sym (or_false _) ∙ ap2 (start_of xs from) start (len_of xs from) (s - start) w (sym c) (omega arith);
        holes = h.0;
        low = let l = h.1.0 in omega arith;
        order = omega arith;
      })
      (λ (a, b, c). let q : from ≡ n = sym a in record {
        gone = [];
        is = ap (λ m. take m xs) a ∙ sym (nothing (take from xs));
        words = λ w. sym (subst (λ m. has_word (record { start = m; len = s - m }) w ≡ false) (sym c) (empty s w));
        holes = subst (λ m. AreHoles 0 (take m xs) (after 0 (take m xs))) a halves.0;
        low = subst (λ m. after 0 (take m xs) ≤ start) a (subst (λ m. after 0 (take n xs) ≤ m) (sym c) (low_here n refl b));
        order = omega arith;
      }) j
    where
      ap2 : (p q m l w : ℕ) → p ≡ q → m ≡ l → has_word (record { start = p; len = m }) w ≡ has_word (record { start = q; len = l }) w
      ap2 p q m l w h k = ap (λ x. has_word (record { start = x; len = m }) w) h ∙ ap (λ x. has_word (record { start = q; len = x }) w) k

      nothing : (ys : List Span) → ys ++ [] ≡ ys
      nothing [] = refl
      nothing (y ∷ ys) = ap (λ l. y ∷ l) (nothing ys)

      low_here : (m : ℕ) → n ≡ m → ((k : ℕ) → n ≡ k + 1 → end_of xs k ≢ s) → after 0 (take m xs) ≤ s
      low_here zero q b = omega arith
      low_here (suc k) q b = let v = P.within in let a = after_take xs 0 k (omega arith) in let le = ends k (omega arith) in let ne = b k (omega arith) in
          omega arith

  record Right (to last : ℕ) : Type 0 where
    gone : List Span
    is : drop n xs ≡ gone ++ drop to xs
    words : (w : ℕ) → some_has gone w ≡ has_word (record { start = e; len = last - e }) w
    holes : AreHoles (suc last) (drop to xs) top
    order : e ≤ last

  drop_past : (m : ℕ) (ys : List Span) → length ys ≤ m → drop m ys ≡ []
  drop_past zero [] le = refl
  drop_past zero (y ∷ ys) le = absurd (omega arith)
  drop_past (suc m) [] le = refl
  drop_past (suc m) (y ∷ ys) le = drop_past m ys (omega arith)

  right : (to last : ℕ) → e ≢ top → JoinsAfter xs n e to last → Right to last
  right to last off j = ⊎_elim
      (λ (a, lt, b, c). let z = some_len xs 0 n top H lt in
      let h = split (take n xs) (get_or xs n no_span ∷ drop (suc n) xs) 0 top (subst (λ l. AreHoles 0 l top) (at_place xs n lt) H) in
      let q : suc n ≡ to = omega arith in
      record {
        gone = get_or xs n no_span ∷ [];
        is = drop-cons xs n no_span lt ∙ ap (λ m. get_or xs n no_span ∷ drop m xs) q;
        words = λ w. sym (or_false _) ∙ same_words (start_of xs n) e (len_of xs n) (last - e) w b (omega arith);
        holes = subst (λ m. AreHoles (suc last) (drop m xs) top) q (subst (λ m. AreHoles (suc m) (drop (suc n) xs) top) (sym c) h.1.1.1);
        order = omega arith;
      })
      (λ (a, b, c). record {
        gone = [];
        is = ap (λ m. drop m xs) (sym a);
        words = λ w. sym (subst (λ m. has_word (record { start = e; len = m - e }) w ≡ false) (sym c) (empty e w));
        holes = subst (λ m. AreHoles (suc last) (drop m xs) top) (sym a) (subst (λ m. AreHoles (suc m) (drop n xs) top) (sym c) (behind b));
        order = omega arith;
      }) j
    where
      same_words : (p q m l w : ℕ) → p ≡ q → m ≡ l → has_word (record { start = p; len = m }) w ≡ has_word (record { start = q; len = l }) w
      same_words p q m l w h k = ap (λ x. has_word (record { start = x; len = m }) w) h ∙ ap (λ x. has_word (record { start = q; len = x }) w) k

      raised : (ys : List Span) (low more : ℕ) → AreHoles low ys top → ((x : Span) (zs : List Span) → ys ≡ x ∷ zs → more ≤ x.start) → more ≤ top
          → AreHoles more ys top
      raised [] low more K first le = le
      raised (y ∷ ys) low more K first le = (first y ys refl, K.1)

      behind : (n < length xs → start_of xs n ≢ e) → AreHoles (suc e) (drop n xs) top
      behind b = let t = ends_below in ⊎_elim
          (λ lt. let ne = b lt in let l = starts n (omega arith) lt in
          let h = split (take n xs) (get_or xs n no_span ∷ drop (suc n) xs) 0 top (subst (λ l. AreHoles 0 l top) (at_place xs n lt) H) in
          subst (λ l. AreHoles (suc e) l top) (sym (drop-cons xs n no_span lt)) (omega arith, h.1.1))
          (λ ge. subst (λ l. AreHoles (suc e) l top) (sym (drop_past n xs ge)) (omega arith))
          (cases_lt n (length xs))

  module _ (from start : ℕ) (jl : JoinsBefore xs n s from start) where
    L : Left from start
    L = left from start jl

    -- The words given are the last below the top.
    pub lower_holes : AreHoles 0 (take from xs) start
    lower_holes = raise (take from xs) 0 (after 0 (take from xs)) start L.holes L.low

    pub lower_live : e ≡ top → (w : ℕ) → is_live (take from xs) start w ≡ (is_live xs top w && not (has_word (record { start = s; len = e - s }) w))
    lower_live at_top w = ⊎_elim
        (λ lt. let o = L.order in let f = below (record { start = s; len = e - s }) w (omega arith) in
        ap2 (nat_lt w start) (nat_lt w top) (some_has (take from xs) w) (some_has xs w) (lt-ltb w start lt ∙ sym (lt-ltb w top (omega arith)))
        (sym (some_all ∙ (ap (λ b. some_has (take from xs) w || b) (gone_false lt) ∙ sym (or_false (some_has (take from xs) w)))))
        ∙ (and_true (is_live xs top w) ∙ ap (λ b. is_live xs top w && b) (sym (not_from_false _ f))))
        (λ ge. and_left _ _ (le-ltb w start ge) ∙ sym (⊎_elim
        (λ lt. ⊎_elim
        (λ lt_s. and_left _ _ (dead_is (is_live xs top w) (λ l. dead xs top w
        (some_all ∙ or_right _ _ (L.words w ∙ inside (record { start = start; len = s - start }) w ge (omega arith))) l)))
        (λ ge_s. and_right _ _ (not_from_true _ (inside (record { start = s; len = e - s }) w ge_s (omega arith))))
        (cases_lt w s))
        (λ past. and_left _ _ (and_left _ _ (le-ltb w top past)))
        (cases_lt w top)))
        (cases_lt w start)
      where
        ap2 : (a b c d : Bool) → a ≡ b → c ≡ d → (a && not c) ≡ (b && not d)
        ap2 a b c d p q = ap (λ x. x && not c) p ∙ ap (λ x. b && not x) q

        and_true : (b : Bool) → b ≡ (b && true)
        and_true true = refl
        and_true false = refl

        dead_is : (b : Bool) → (b ≡ true → ⊥) → b ≡ false
        dead_is true f = absurd (f refl)
        dead_is false f = refl

        past_all : length xs ≤ n
        past_all = ⊎_elim (λ lt. let l = starts n (omega arith) lt in let b = end_below xs 0 n top H lt in absurd (omega arith)) (λ ge. ge)
            (cases_lt n (length xs))

        some_all : some_has xs w ≡ (some_has (take from xs) w || some_has L.gone w)
        some_all = ap (λ l. some_has l w) (sym (take_past n xs past_all) ∙ L.is) ∙ some_append (take from xs) L.gone w
          where
            take_past : (m : ℕ) (ys : List Span) → length ys ≤ m → take m ys ≡ ys
            take_past zero [] le = refl
            take_past zero (y ∷ ys) le = absurd (omega arith)
            take_past (suc m) [] le = refl
            take_past (suc m) (y ∷ ys) le = ap (λ l. y ∷ l) (take_past m ys (omega arith))

        gone_false : w < start → some_has L.gone w ≡ false
        gone_false lt = L.words w ∙ below (record { start = start; len = s - start }) w lt

    -- The words given join the holes beside them.
    module _ (to last : ℕ) (off : e ≢ top) (jr : JoinsAfter xs n e to last) where
      R : Right to last
      R = right to last off jr

      abbrev hole : Span
      hole = record { start = start; len = last - start }

      pub given_holes : AreHoles 0 (take from xs ++ hole ∷ drop to xs) top
      given_holes = let a = L.order in let b = R.order in let l = L.low in
          let q : start + (last - start) ≡ last = omega arith in
          join (take from xs) (hole ∷ drop to xs) 0 top L.holes (l, (omega arith, subst (λ m. AreHoles (suc m) (drop to xs) top) (sym q) R.holes))

      pub given_live : (w : ℕ) → is_live (take from xs ++ hole ∷ drop to xs) top w ≡ (is_live xs top w && not (has_word (record { start = s; len = e - s }) w))
      given_live w =
          let words = three w start s e last L.order (omega arith) R.order in
          ap (λ b. nat_lt w top && not b) (some_append (take from xs) (hole ∷ drop to xs) w
          ∙ ap (λ b. some_has (take from xs) w || (b || some_has (drop to xs) w)) (words ∙ ap2 _ _ _ _ (sym (L.words w)) (sym (R.words w))))
          ∙ (alg (nat_lt w top) (some_has (take from xs) w) (some_has L.gone w) (has_word (record { start = s; len = e - s }) w) (some_has R.gone w)
          (some_has (drop to xs) w)
          ∙ ap (λ b. (nat_lt w top && not b) && not (has_word (record { start = s; len = e - s }) w)) (sym all))
        where
          ap2 : (a b c d : Bool) → a ≡ b → c ≡ d → ((a || has_word (record { start = s; len = e - s }) w) || c) ≡
              ((b || has_word (record { start = s; len = e - s }) w) || d)
          ap2 a b c d p q = ap (λ x. (x || has_word (record { start = s; len = e - s }) w) || c) p
              ∙ ap (λ x. (b || has_word (record { start = s; len = e - s }) w) || x) q

          all : some_has xs w ≡ ((some_has (take from xs) w || some_has L.gone w) || (some_has R.gone w || some_has (drop to xs) w))
          all = ap (λ l. some_has l w) (sym (take-append-drop n xs)) ∙ (some_append (take n xs) (drop n xs) w
              ∙ both _ _ _ _ (ap (λ l. some_has l w) L.is ∙ some_append (take from xs) L.gone w)
              (ap (λ l. some_has l w) R.is ∙ some_append R.gone (drop to xs) w))
            where
              both : (a b c d : Bool) → a ≡ b → c ≡ d → (a || c) ≡ (b || d)
              both a b c d p q = ap (λ x. x || c) p ∙ ap (λ x. b || x) q

-- What `give` finds in the holes that it was given.
module _ (xs : List Span) (top : ℕ) (span : Span) (H : AreHoles 0 xs top) (some : 0 < span.len)
    (live : (w : ℕ) → has_word span w ≡ true → is_live xs top w ≡ true) where
  each : (w : ℕ) → span.start ≤ w → w < span.start + span.len → is_live xs top w ≡ true
  each w a b = live w (inside span w a b)

  pub end_within : span.start + span.len ≤ top
  end_within = let p = and_parts _ _ (each (span.start + span.len - 1) (omega arith) (omega arith)) in let l = ltb-true (span.start + span.len - 1) top p.0 in
      omega arith

  same_span : (w : ℕ) → has_word (record { start = span.start; len = (span.start + span.len) - span.start }) w ≡ has_word span w
  same_span w = let q : (span.start + span.len) - span.start ≡ span.len = omega arith in ap (λ m. has_word (record { start = span.start; len = m }) w) q

  module _ (ys zs : List Span) (n from start : ℕ) (y : ys ≡ xs) (P : IsPlace ys span.start n) (z : zs ≡ xs) (J : JoinsBefore zs n span.start from start) where
    place : IsPlace xs span.start n
    place = subst (λ l. IsPlace l span.start n) y P

    before : JoinsBefore xs n span.start from start
    before = subst (λ l. JoinsBefore l n span.start from start) z J

    pub top_holes : (new : List Span) → new ≡ take from xs → AreHoles 0 new start
    top_holes new q = subst (λ l. AreHoles 0 l start) (sym q) (lower_holes xs top span.start (span.start + span.len) n H
        (omega arith) each place from start before)

    pub top_live : (new : List Span) → new ≡ take from xs → span.start + span.len ≡ top → (w : ℕ)
        → is_live new start w ≡ (is_live xs top w && not (has_word span w))
    top_live new q t w = subst (λ l. is_live l start w ≡ (is_live xs top w && not (has_word span w))) (sym q)
        (lower_live xs top span.start (span.start + span.len) n H (omega arith) each place from start before t w
        ∙ ap (λ b. is_live xs top w && not b) (same_span w))

    module _ (us : List Span) (to last : ℕ) (u : us ≡ xs) (off : span.start + span.len ≢ top) (K : JoinsAfter us n (span.start + span.len) to last) where
      behind : JoinsAfter xs n (span.start + span.len) to last
      behind = subst (λ l. JoinsAfter l n (span.start + span.len) to last) u K

      pub in_holes : (new : List Span) → new ≡ take from xs ++ (record { start = start; len = last - start }) ∷ drop to xs → AreHoles 0 new top
      in_holes new q = subst (λ l. AreHoles 0 l top) (sym q) (given_holes xs top span.start (span.start + span.len) n H
          (omega arith) each place from start before to last off behind)

      pub in_live : (new : List Span) → new ≡ take from xs ++ (record { start = start; len = last - start }) ∷ drop to xs → (w : ℕ)
          → is_live new top w ≡ (is_live xs top w && not (has_word span w))
      in_live new q w = subst (λ l. is_live l top w ≡ (is_live xs top w && not (has_word span w))) (sym q)
          (given_live xs top span.start (span.start + span.len) n H (omega arith) each place from start before to last off behind w
          ∙ ap (λ b. is_live xs top w && not b) (same_span w))
