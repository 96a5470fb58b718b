-- Each word form stands for its effect.
use Rattle.std.proofs.Common.{◌≡◌, ◌∙◌, ℕ, zero, suc, ◌+◌, ◌<◌, inl, inr, ℤ, pos, Bool, true, false, cond, nat_lt, List, [], ◌∷◌, ◌++◌, length, get_or, set, replicate, Option, Some, None, is_some, Result, Ok, Err, refl, sym, ap, subst, arith}
use Rattle.std.proofs.lemmas.Bool.{cases_eq, ltb-true}
use Rattle.std.proofs.lemmas.List.{length-append}
use Rattle.job_base.specs.declared.Trap.{Trap}
use Rattle.job_base.specs.declared.Trap.TheVariants.{Full, Written}
use Rattle.job_base.specs.Cells.{with_cell, cell_list}
use Rattle.job_base.specs.Forms.{Reaches, SameBeyond}
use Rattle.job_base.proofs.Windows.{with_cell-same, with_cell-other, get_or-cell_list, cell_list-next, cell_list-with_cell-outside}
use Rattle.frame_ast.specs.Contents.{Entries, items_of, place_in, then_value, item_at, write_index}
use Rattle.native_stream.specs.declared.StreamAt.{StreamAt}
use Rattle.native_stream.specs.Layout.{mark_word, item_word, index_end, HoldsEntry, HoldsEntries, StandsFor}
use Rattle.native_stream.specs.Words.{is_written_at, item_count, items_words, item_words, at_words, begun, begin_words, added, write_words, write_words_at, unmarked, clear_words}
use Rattle.native_array.specs.Effects.{done}
use Rattle.native_stream.specs.Effects.{begin_effect, write_effect, items_effect, at_effect, clear_effect}
use Rattle.native_stream.proofs.Places.{in_place, place_in-below, marks_apart}
use Rattle.native_stream.proofs.Standing.{written_is, count_is, holds_set, holds_unwritten}

-- the marks of the first indexes are 0
unmarked_is : (at : StreamAt) (cells : ℕ → ℤ) (n k : ℕ) → k < n → unmarked at cells n (mark_word at k) ≡ pos 0
unmarked_is at cells zero k h = absurd (omega arith)
unmarked_is at cells (suc n) k h = elim (cases_eq k n) [
  | inl e ↦ ap (λ j. unmarked at cells (suc n) (mark_word at j)) e ∙ with_cell-same (unmarked at cells n) (mark_word at n) (pos 0)
  | inr ne ↦ with_cell-other (unmarked at cells n) (mark_word at n) (pos 0) (mark_word at k) (marks_apart at k n ne) ∙ unmarked_is at cells n k (omega arith)
]

module _ (at : StreamAt) (cells : ℕ → ℤ) (es : List (Option (List ℤ))) (s : HoldsEntries at cells es) where
  -- what index k has
  entry : ℕ → Option (List ℤ)
  entry k = get_or es k None

  -- ---- reading

  items_at : (i : ℤ) (p : Result ℕ Trap) → place_in at.count i ≡ p → then_value p (λ j. Ok (item_count at cells j)) ≡ then_value
      (then_value p (λ j. Ok (items_of (get_or es j None)))) (λ xs. Ok (length xs))
  items_at i (Ok k) e = ap (λ n. Ok n) (count_is at cells k (get_or es k None) (s.each k (in_place at.count k i e)))
  items_at i (Err trap) e = refl

  pub items_law : (i : ℤ) → items_words at cells i ≡ (items_effect i (Entries at.room es)).0
  items_law i =
      items_at i (place_in at.count i) refl
      ∙ ap (λ n. then_value (then_value (place_in n i) (λ j. Ok (items_of (get_or es j None)))) (λ xs. Ok (length xs))) (sym s.number)

  item_found : (k : ℕ) (e : Option (List ℤ)) → HoldsEntry at cells k e → (i : ℤ) (p : Result ℕ Trap) → place_in (length (items_of e)) i ≡ p
      → then_value p (λ q. Ok (cells (item_word at k q))) ≡ then_value p (λ q. Ok (get_or (items_of e) q (pos 0)))
  item_found k e t i (Ok q) h =
      ap (λ z. Ok z)
      (sym (get_or-cell_list cells (mark_word at k + 1) (length (items_of e)) q (pos 0) (in_place (length (items_of e)) q i h))
      ∙ ap (λ l. get_or l q (pos 0)) t.items)
  item_found k e t i (Err trap) h = refl

  item_is : (k : ℕ) (e : Option (List ℤ)) → HoldsEntry at cells k e → (i : ℤ) → item_words at cells k i ≡ item_at (items_of e) i
  item_is k e t i =
      ap (λ n. then_value (place_in n i) (λ q. Ok (cells (item_word at k q)))) (count_is at cells k e t)
      ∙ item_found k e t i (place_in (length (items_of e)) i) refl

  at_at : (i k : ℤ) (p : Result ℕ Trap) → place_in at.count i ≡ p → then_value p (λ j. item_words at cells j k) ≡ then_value
      (then_value p (λ j. Ok (items_of (get_or es j None)))) (λ xs. item_at xs k)
  at_at i k (Ok j) e = item_is j (get_or es j None) (s.each j (in_place at.count j i e)) k
  at_at i k (Err trap) e = refl

  pub at_law : (i k : ℤ) → at_words at cells i k ≡ (at_effect i k (Entries at.room es)).0
  at_law i k =
      at_at i k (place_in at.count i) refl
      ∙ ap (λ n. then_value (then_value (place_in n i) (λ j. Ok (items_of (get_or es j None)))) (λ xs. item_at xs k)) (sym s.number)

  -- ---- begin

  whole : StandsFor at cells (Entries at.room es)
  whole = (es, refl, s)

  begun_holds : (k : ℕ) → k < at.count → HoldsEntries at (with_cell cells (mark_word at k) (pos 1)) (set es k (Some []))
  begun_holds k h =
      holds_set at cells (with_cell cells (mark_word at k) (pos 1)) es k (Some []) s h
      (λ w out. with_cell-other cells (mark_word at k) (pos 1) w (omega arith))
      (record { mark = with_cell-same cells (mark_word at k) (pos 1); within = omega arith; items = refl })

  begun_reaches : (k : ℕ) → k < at.count → (b : Bool) → Reaches (StandsFor at)
      (cond {A = Result (Unit {0}) Trap × (ℕ → ℤ)} b (Err Written, cells) (Ok tt, with_cell cells (mark_word at k) (pos 1)))
      (done tt (Entries at.room es) (then_value (cond b (Err Written) (Ok (set es k (Some [])))) (λ fs. Ok (Entries at.room fs))))
  begun_reaches k h true = (refl, whole)
  begun_reaches k h false = (refl, (set es k (Some []), refl, begun_holds k h))

  begin_at : (i : ℤ) (p : Result ℕ Trap) → place_in at.count i ≡ p → Reaches (StandsFor at) (begun at cells p)
      (done tt (Entries at.room es) (then_value (then_value p (λ a. Ok a))
      (λ _. then_value (then_value p (λ k. cond (is_some (get_or es k None)) (Err Written) (Ok (set es k (Some []))))) (λ fs. Ok (Entries at.room fs)))))
  begin_at i (Ok k) e =
      let h : k < at.count = in_place at.count k i e in
      subst (λ b. Reaches (StandsFor at) (begun at cells (Ok k)) (done tt (Entries at.room es)
      (then_value (cond b (Err Written) (Ok (set es k (Some [])))) (λ fs. Ok (Entries at.room fs)))))
      (written_is at cells k (get_or es k None) (s.each k h)) (begun_reaches k h (is_written_at at cells k))
  begin_at i (Err trap) e = (refl, whole)

  pub begin_law : (i : ℤ) → Reaches (StandsFor at) (begin_words at cells i) (begin_effect i (Entries at.room es))
  begin_law i =
      subst (λ n. Reaches (StandsFor at) (begin_words at cells i)
      (done tt (Entries at.room es) (then_value (then_value (place_in n i) (λ a. Ok a))
      (λ _. then_value (then_value (place_in n i) (λ k. cond (is_some (get_or es k None)) (Err Written) (Ok (set es k (Some [])))))
      (λ fs. Ok (Entries at.room fs))))))
      (sym s.number) (begin_at i (place_in at.count i) refl)

  -- ---- write

  -- one item more behind those of an index
  added_holds : (k : ℕ) (e : Option (List ℤ)) → HoldsEntry at cells k e → (v : ℤ) → length (items_of e) < at.room
      → HoldsEntry at (added at cells k (length (items_of e)) v) k (Some (items_of e ++ v ∷ []))
  added_holds k e t v room =
      let xs = items_of e in
      let n = length xs in
      let first = mark_word at k + 1 in
      let mid = with_cell cells (item_word at k n) v in
      let new = added at cells k n v in
      let longer : length (xs ++ v ∷ []) ≡ n + 1 = length-append xs (v ∷ []) in
      let kept : cell_list new first n ≡ xs =
      cell_list-with_cell-outside mid first n (mark_word at k) (pos (n + 2)) (inl (omega arith))
      ∙ cell_list-with_cell-outside cells first n (item_word at k n) v (inr (omega arith)) ∙ t.items in
      let last : new (first + n) ≡ v =
      with_cell-other mid (mark_word at k) (pos (n + 2)) (first + n) (omega arith) ∙ with_cell-same cells (item_word at k n) v in
      record {
        mark = with_cell-same mid (mark_word at k) (pos (n + 2)) ∙ ap (λ m. pos m) (omega (arith, longer));
        within = omega (arith, longer);
        items = ap (cell_list new first) longer ∙ cell_list-next new first n ∙ ap (λ l. l ++ new (first + n) ∷ []) kept ∙ ap (λ z. xs ++ z ∷ []) last;
      }

  added_outside : (k n : ℕ) (v : ℤ) → n < at.room → SameBeyond (mark_word at k) (index_end at k) cells (added at cells k n v)
  added_outside k n v room w out =
      with_cell-other (with_cell cells (item_word at k n) v) (mark_word at k) (pos (n + 2)) w (omega arith)
      ∙ with_cell-other cells (item_word at k n) v w (omega arith)

  write_at : (k : ℕ) → k < at.count → (v : ℤ) (b : Bool) → nat_lt (length (items_of (get_or es k None))) at.room ≡ b
      → Reaches (StandsFor at) (cond {A = Result (Unit {0}) Trap × (ℕ → ℤ)} b (Ok tt, added at cells k (length (items_of (get_or es k None))) v)
      (Err Full, cells))
      (done tt (Entries at.room es) (then_value (then_value (cond b (Ok (items_of (get_or es k None) ++ v ∷ [])) (Err Full)) (λ xs. Ok (set es k (Some xs))))
      (λ fs. Ok (Entries at.room fs))))
  write_at k h v true e =
      let t = s.each k h in
      let n = length (items_of (get_or es k None)) in
      let room : n < at.room = ltb-true n at.room e in
      let xs = items_of (get_or es k None) ++ v ∷ [] in (
        refl,
        (
          set es k (Some xs),
          refl,
          holds_set at cells (added at cells k n v) es k (Some xs) s h (added_outside k n v room)
              (added_holds k (get_or es k None) t v room),
        ),
      )
  write_at k h v false e = (refl, whole)

  pub write_law : (k : ℕ) → k < at.count → (v : ℤ) → Reaches (StandsFor at) (write_words at cells k v) (write_effect k v (Entries at.room es))
  write_law k h v =
      let n = length (items_of (get_or es k None)) in
      let inside : k < length es = omega (arith, s.number) in
      let effect = λ (p : Result ℕ Trap). done tt (Entries at.room es) (then_value p
      (λ j. then_value (write_index at.room es j v) (λ fs. Ok (Entries at.room fs)))) in
      subst (λ p. Reaches (StandsFor at) (write_words at cells k v) (effect p)) (sym (place_in-below (length es) k inside))
      (subst (λ m. Reaches (StandsFor at) (write_words_at at cells k m v) (effect (Ok k))) (sym (count_is at cells k (get_or es k None) (s.each k h)))
      (write_at k h v (nat_lt n at.room) refl))

  -- ---- clear

  pub clear_law : Reaches (StandsFor at) (tt, clear_words at cells) (clear_effect (Entries at.room es))
  clear_law =
      (refl, (replicate (length es) None, refl, holds_unwritten at (clear_words at cells) (length es) s.number (λ k hk. unmarked_is at cells at.count k hk)))
