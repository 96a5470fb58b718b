-- Each word form reads words of the map alone: on cells that agree there it gives the same answer, and cells that agree there.
use Rattle.std.proofs.Common.{◌≡◌, ℕ, ℤ, pos, zero, suc, ◌<◌, ◌≤◌, Bool, true, false, cond, not, Option, Some, Ok, Err, is_some, refl, sym, ap, subst, ◌∙◌, eqb, ◌&&◌, arith, ◌+ℤ◌, int_lt, nat_lt, w64}
use Rattle.std.specs.Int.{int_wrapping_sub}
use Rattle.job_base.specs.declared.Trap.TheVariants.{Full}
use Rattle.job_base.specs.Cells.{with_cell}
use Rattle.frame_ast.specs.Contents.{present_value}
use Rattle.native_map.specs.declared.MapAt.{MapAt}
use Rattle.native_map.specs.declared.search.Spot.{Spot}
use Rattle.native_map.specs.declared.search.Spot.TheVariants.{Held, Free, Nowhere}
use Rattle.native_map.specs.Table.{places, flag_word, key_word, value_word, next_place, distance, home, holds, spot_in, spot_of}
use Rattle.native_map.specs.Words.{filled, copied, passes, shifted, emptied, is_full, add_words_at, try_add_words_at, put_words, put_words_in, add_words, add_words_in, try_add_words, try_add_words_in, remove_words, remove_words_in, clear_words, get_words, has_words, counted, count_words, is_above, is_nearer, nearest, next_words}
use Rattle.std.proofs.lemmas.Bool.{true≢false}
use Rattle.native_map.proofs.Claims.{Alike}
use Rattle.native_map.proofs.Probing.{next_below}
use Rattle.native_map.proofs.Searches.{in_place, in_gap, nowhere, ending, ended}
use Rattle.native_map.proofs.Standing.{same_place, same_held, same_key, same_value, same_found}

-- the same answer, and cells that agree
abbrev pub SameCall : {A : Type 0} → MapAt → A × (ℕ → ℤ) → A × (ℕ → ℤ) → Type 0
SameCall at f g = (g.0 ≡ f.0) × Alike at f.1 g.1

choose : {A : Type 0} (at : MapAt) (x y : Bool) → y ≡ x → (f g f' g' : A × (ℕ → ℤ)) → SameCall at f f' → SameCall at g g'
    → SameCall at (cond x f g) (cond y f' g')
choose at true true e f g f' g' p q = p
choose at true false e f g f' g' p q = absurd (true≢false (sym e))
choose at false true e f g f' g' p q = absurd (true≢false e)
choose at false false e f g f' g' p q = q

either : (at : MapAt) (x y : Bool) → y ≡ x → (f g f' g' : ℕ → ℤ) → Alike at f f' → Alike at g g' → Alike at (cond x f g) (cond y f' g')
either at true true e f g f' g' p q = p
either at true false e f g f' g' p q = absurd (true≢false (sym e))
either at false true e f g f' g' p q = absurd (true≢false e)
either at false false e f g f' g' p q = q

module _ (at : MapAt) where
  written : (a b : ℕ → ℤ) → Alike at a b → (w : ℕ) (v v' : ℤ) → v' ≡ v → Alike at (with_cell a w v) (with_cell b w v')
  written a b h w v v' e x lo hi = λ i. cond (eqb x w) (e i) (h x lo hi i)

  filled_alike : (a b : ℕ → ℤ) → Alike at a b → (p : ℕ) (k v : ℤ) → Alike at (filled at a p k v) (filled at b p k v)
  filled_alike a b h p k v =
      let one = written a b h (key_word at.start p) k k refl in
      let two = written _ _ one (value_word at.start p) v v refl in
      let three = written _ _ two (flag_word at.start p) (pos 1) (pos 1) refl in
      written _ _ three at.start _ _ (ap (λ c. c +ℤ pos 1) (h at.start (omega arith) (omega arith)))

  copied_alike : (a b : ℕ → ℤ) → Alike at a b → (i j : ℕ) → j < places at.cap → Alike at (copied at a i j) (copied at b i j)
  copied_alike a b h i j hj = written _ _ (written a b h (key_word at.start i) _ _ (same_key at a b h j hj)) (value_word at.start i) _ _
      (same_value at a b h j hj)

  shifted_alike : (n : ℕ) (a b : ℕ → ℤ) → Alike at a b → (i j : ℕ) → j < places at.cap → Alike at (shifted at n a i j) (shifted at n b i j)
  shifted_alike zero a b h i j hj = written a b h (flag_word at.start i) (pos 0) (pos 0) refl
  shifted_alike (suc n) a b h i j hj =
      let on = next_below (places at.cap) j hj in
      let k = next_place (places at.cap) j in
      let over : passes at b i j ≡ passes at a i j = ap (λ k. nat_lt (distance (places at.cap) (home (places at.cap) k) i)
      (distance (places at.cap) (home (places at.cap) k) j)) (same_key at a b h j hj) in
      let moved = shifted_alike n (copied at a i j) (copied at b i j) (copied_alike a b h i j hj) j k on in
      let passed = shifted_alike n a b h i k on in
      let inner = either at (passes at a i j) (passes at b i j) over (shifted at n (copied at a i j) j k) (shifted at n a i k)
      (shifted at n (copied at b i j) j k) (shifted at n b i k) moved passed in
      either at (holds a at.start j) (holds b at.start j) (same_held at a b h j hj)
      (cond (passes at a i j) (shifted at n (copied at a i j) j k) (shifted at n a i k)) (with_cell a (flag_word at.start i) (pos 0))
      (cond (passes at b i j) (shifted at n (copied at b i j) j k) (shifted at n b i k)) (with_cell b (flag_word at.start i) (pos 0))
      inner (written a b h (flag_word at.start i) (pos 0) (pos 0) refl)

  emptied_alike : (a b : ℕ → ℤ) → Alike at a b → (n : ℕ) → Alike at (emptied at a n) (emptied at b n)
  emptied_alike a b h zero = h
  emptied_alike a b h (suc n) = written _ _ (emptied_alike a b h n) (flag_word at.start n) (pos 0) (pos 0) refl

  module _ (a b : ℕ → ℤ) (h : Alike at a b) where
    same_spot : (k : ℤ) → spot_of at b k ≡ spot_of at a k
    same_spot k = elim (ending at a k) [
      | nowhere e ↦ ap (spot_in at b) (same_place at a b h k ∙ e) ∙ sym (ap (spot_in at a) e)
      | in_place p e s ↦ let hp = (ended at a k p e).below in
          ap (spot_in at b) (same_place at a b h k ∙ e) ∙ ap (λ x. cond x (Held p) (Free p)) (same_held at a b h p hp) ∙ sym (ap (spot_in at a) e)
      | in_gap p e s ↦ let hp = (ended at a k p e).below in
          ap (spot_in at b) (same_place at a b h k ∙ e) ∙ ap (λ x. cond x (Held p) (Free p)) (same_held at a b h p hp) ∙ sym (ap (spot_in at a) e)
    ]

    same_full : is_full at b ≡ is_full at a
    same_full = ap (λ c. not (int_lt c (pos at.cap))) (h at.start (omega arith) (omega arith))

    added_alike : (p : ℕ) (k v : ℤ) → SameCall at (add_words_at at a p k v) (add_words_at at b p k v)
    added_alike p k v = choose at (is_full at a) (is_full at b) same_full (Err Full, a) (Ok tt, filled at a p k v) (Err Full, b) (Ok tt, filled at b p k v)
        (refl, h) (refl, filled_alike a b h p k v)

    try_added_alike : (p : ℕ) (k v : ℤ) → SameCall at (try_add_words_at at a p k v) (try_add_words_at at b p k v)
    try_added_alike p k v = choose at (is_full at a) (is_full at b) same_full (Err Full, a) (Ok true, filled at a p k v) (Err Full, b)
        (Ok true, filled at b p k v) (refl, h) (refl, filled_alike a b h p k v)

    put_reads_in : (sp : Spot) (k v : ℤ) → SameCall at (put_words_in at a sp k v) (put_words_in at b sp k v)
    put_reads_in (Held p) k v = (refl, written a b h (value_word at.start p) v v refl)
    put_reads_in (Free p) k v = added_alike p k v
    put_reads_in Nowhere k v = (refl, h)

    pub put_reads : (k v : ℤ) → SameCall at (put_words at a k v) (put_words at b k v)
    put_reads k v = subst (λ sp. SameCall at (put_words at a k v) (put_words_in at b sp k v)) (sym (same_spot k)) (put_reads_in (spot_of at a k) k v)

    add_reads_in : (sp : Spot) (k v : ℤ) → SameCall at (add_words_in at a sp k v) (add_words_in at b sp k v)
    add_reads_in (Held p) k v = (refl, h)
    add_reads_in (Free p) k v = added_alike p k v
    add_reads_in Nowhere k v = (refl, h)

    pub add_reads : (k v : ℤ) → SameCall at (add_words at a k v) (add_words at b k v)
    add_reads k v = subst (λ sp. SameCall at (add_words at a k v) (add_words_in at b sp k v)) (sym (same_spot k)) (add_reads_in (spot_of at a k) k v)

    try_add_reads_in : (sp : Spot) (k v : ℤ) → SameCall at (try_add_words_in at a sp k v) (try_add_words_in at b sp k v)
    try_add_reads_in (Held p) k v = (refl, h)
    try_add_reads_in (Free p) k v = try_added_alike p k v
    try_add_reads_in Nowhere k v = (refl, h)

    pub try_add_reads : (k v : ℤ) → SameCall at (try_add_words at a k v) (try_add_words at b k v)
    try_add_reads k v = subst (λ sp. SameCall at (try_add_words at a k v) (try_add_words_in at b sp k v)) (sym (same_spot k))
        (try_add_reads_in (spot_of at a k) k v)

    pub remove_reads : (k : ℤ) → SameCall at (remove_words at a k) (remove_words at b k)
    remove_reads k = elim (ending at a k) [
      | nowhere e ↦ (
        ap (λ sp. (remove_words_in at b sp).0) (same_spot k ∙ ap (spot_in at a) e) ∙ sym (ap (λ o. (remove_words_in at a (spot_in at a o)).0) e),
        λ x lo hi. ap (λ sp. (remove_words_in at b sp).1 x) (same_spot k ∙ ap (spot_in at a) e) ∙ h x lo hi
            ∙ sym (ap (λ o. (remove_words_in at a (spot_in at a o)).1 x) e),
      )
      | in_gap p e s ↦
          let to = ap (spot_in at a) e ∙ ap (λ y. cond y (Held p) (Free p)) s in (
            ap (λ sp. (remove_words_in at b sp).0) (same_spot k ∙ to) ∙ sym (ap (λ sp. (remove_words_in at a sp).0) to),
            λ x lo hi. ap (λ sp. (remove_words_in at b sp).1 x) (same_spot k ∙ to) ∙ h x lo hi ∙ sym (ap (λ sp. (remove_words_in at a sp).1 x) to),
          )
      | in_place p e s ↦
          let to = ap (spot_in at a) e ∙ ap (λ y. cond y (Held p) (Free p)) s in
          let hp = (ended at a k p e).below in
          let after = written _ _ (shifted_alike (places at.cap) a b h p (next_place (places at.cap) p) (next_below (places at.cap) p hp)) at.start _ _
          (ap (λ c. int_wrapping_sub w64 c (pos 1)) (h at.start (omega arith) (omega arith))) in (
            ap (λ sp. (remove_words_in at b sp).0) (same_spot k ∙ to) ∙ sym (ap (λ sp. (remove_words_in at a sp).0) to),
            λ x lo hi. ap (λ sp. (remove_words_in at b sp).1 x) (same_spot k ∙ to) ∙ after x lo hi ∙ sym (ap (λ sp. (remove_words_in at a sp).1 x) to),
          )
    ]

    pub clear_reads : Alike at (clear_words at a) (clear_words at b)
    clear_reads = written _ _ (emptied_alike a b h (places at.cap)) at.start (pos 0) (pos 0) refl

    pub get_reads : (k : ℤ) → get_words at b k ≡ get_words at a k
    get_reads k = ap present_value (same_found at a b h k)

    pub has_reads : (k : ℤ) → has_words at b k ≡ has_words at a k
    has_reads k = ap is_some (same_found at a b h k)

    pub count_reads : count_words at b ≡ count_words at a
    count_reads = ap (counted at.cap) (h at.start (omega arith) (omega arith))

    near_reads : (k : Option ℤ) (n : ℕ) → n ≤ places at.cap → nearest at b k n ≡ nearest at a k n
    near_reads k zero le = refl
    near_reads k (suc n) le =
        let hn : n < places at.cap = omega arith in
        λ i. cond (same_held at a b h n hn i && (is_above k (same_key at a b h n hn i)
        && is_nearer (near_reads k n (omega arith) i) (same_key at a b h n hn i)))
        (Some (same_key at a b h n hn i, same_value at a b h n hn i)) (near_reads k n (omega arith) i)

    pub next_reads : (k : Option ℤ) → next_words at b k ≡ next_words at a k
    next_reads k = near_reads k (places at.cap) (omega arith)
