-- The words of a list that holds items, before and after writes.
use Rattle.std.proofs.Common.{◌≡◌, ◌≢◌, ◌∙◌, ℕ, ◌+◌, ◌-◌, ◌<◌, ◌≤◌, inl, ℤ, pos, negsuc, List, [], ◌∷◌, ◌++◌, length, get_or, set, take, min, sym, ap, arith, length-append, length-set}
use Rattle.std.proofs.lemmas.List.{length-take-le}
use Rattle.job_base.specs.Cells.{with_cell, cell_list}
use Rattle.job_base.proofs.Windows.{with_cell-same, with_cell-other, get_or-cell_list, cell_list-same, cell_list-next, cell_list-with_cell-outside, cell_list-with_cell-inside}
use Rattle.native_array.proofs.Places.{take-cell_list}
use Rattle.native_list.specs.declared.ListAt.{ListAt}
use Rattle.native_list.specs.Layout.{HoldsItems}
use Rattle.native_list.specs.Words.{length_in, len_words, added, removed}

-- a length is at most the capacity
pub length_within : (cap : ℕ) (z : ℤ) → length_in cap z ≤ cap
length_within cap (pos n) = omega arith
length_within cap (negsuc n) = omega arith

module _ (at : ListAt) (cells : ℕ → ℤ) (xs : List ℤ) (s : HoldsItems at cells xs) where
  -- the length word says how many items there are
  pub length_is : len_words at cells ≡ length xs
  length_is =
      let within = s.within in
      let least : min (length xs) at.cap ≡ length xs = omega arith in
      ap (length_in at.cap) s.count ∙ least

  pub set_holds : (k : ℕ) (v : ℤ) → k < length xs → HoldsItems at (with_cell cells (at.start + 1 + k) v) (set xs k v)
  set_holds k v below =
      let same : length (set xs k v) ≡ length xs = length-set xs k v in
      let apart : at.start ≢ at.start + 1 + k = omega arith in
      let within = s.within in
      record {
        count = with_cell-other cells (at.start + 1 + k) v at.start apart ∙ s.count ∙ ap (λ n. pos n) (sym same);
        within = omega (arith, same);
        elements =
            ap (cell_list (with_cell cells (at.start + 1 + k) v) (at.start + 1)) same
            ∙ cell_list-with_cell-inside cells (at.start + 1) (length xs) k v below
            ∙ ap (λ l. set l k v) s.elements;
      }

  add_elements : (v : ℤ) → cell_list (added at cells (length xs) v) (at.start + 1) (length xs + 1) ≡ xs ++ (v ∷ [])
  add_elements v =
      let n = length xs in
      let word = at.start + 1 + n in
      let entered = with_cell cells word v in
      cell_list-with_cell-outside entered (at.start + 1) (n + 1) at.start (pos (n + 1)) (inl (omega arith))
      ∙ cell_list-next entered (at.start + 1) n
      ∙ ap (λ z. cell_list entered (at.start + 1) n ++ (z ∷ [])) (with_cell-same cells word v)
      ∙ ap (λ l. l ++ (v ∷ [])) (cell_list-same entered cells (at.start + 1) n (λ k lo hi. with_cell-other cells word v k (omega arith)) ∙ s.elements)

  pub add_holds : (v : ℤ) → length xs < at.cap → HoldsItems at (added at cells (length xs) v) (xs ++ (v ∷ []))
  add_holds v room =
      let same : length (xs ++ (v ∷ [])) ≡ length xs + 1 = length-append xs (v ∷ []) in
      record {
        count = with_cell-same (with_cell cells (at.start + 1 + length xs) v) at.start (pos (length xs + 1)) ∙ ap (λ n. pos n) (sym same);
        within = omega (arith, same);
        elements = ap (cell_list (added at cells (length xs) v) (at.start + 1)) same ∙ add_elements v;
      }

  -- the last of the items
  last_is : 0 < length xs → cells (at.start + length xs) ≡ get_or xs (length xs - 1) (pos 0)
  last_is some =
      let word : at.start + length xs ≡ at.start + 1 + (length xs - 1) = omega arith in
      let below : length xs - 1 < length xs = omega arith in
      ap cells word
      ∙ sym (get_or-cell_list cells (at.start + 1) (length xs) (length xs - 1) (pos 0) below)
      ∙ ap (λ l. get_or l (length xs - 1) (pos 0)) s.elements

  pub remove_holds : (k : ℕ) → k < length xs → HoldsItems at (removed at cells (length xs) k)
      (take (length xs - 1) (set xs k (get_or xs (length xs - 1) (pos 0))))
  remove_holds k below =
      let n = length xs in
      let some : 0 < length xs = omega arith in
      let word = at.start + 1 + k in
      let last = cells (at.start + n) in
      let moved = with_cell cells word last in
      let ys = set xs k (get_or xs (n - 1) (pos 0)) in
      let long : n - 1 ≤ length ys = omega (arith, length-set xs k (get_or xs (length xs - 1) (pos 0))) in
      let same : length (take (n - 1) ys) ≡ n - 1 = length-take-le (n - 1) ys long in
      let within = s.within in
      record {
        count = with_cell-same moved at.start (pos (n - 1)) ∙ ap (λ m. pos m) (sym same);
        within = omega (arith, same);
        elements =
            ap (cell_list (removed at cells n k) (at.start + 1)) same
            ∙ cell_list-with_cell-outside moved (at.start + 1) (n - 1) at.start (pos (n - 1)) (inl (omega arith))
            ∙ sym (take-cell_list moved (at.start + 1) n (n - 1) (omega arith))
            ∙ ap (take (n - 1)) (cell_list-with_cell-inside cells (at.start + 1) n k last below ∙ ap (λ l. set l k last) s.elements
            ∙ ap (set xs k) (last_is some));
      }
