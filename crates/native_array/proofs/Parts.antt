-- A slice is a part of its array.
use Rattle.std.proofs.Common.{◌≡◌, ◌∙◌, ℕ, ◌+◌, ◌-◌, ◌≤◌, inl, inr, ℤ, List, ◌++◌, take, drop, sym, ap, arith}
use Rattle.job_base.specs.Cells.{cell_list}
use Rattle.job_base.specs.Forms.{SameBeyond}
use Rattle.job_base.proofs.Windows.{cell_list-same, cell_list-append}
use Rattle.frame_ast.specs.Contents.{Contents, Cells, elements}
use Rattle.native_array.specs.declared.array.ArrayAt.{ArrayAt}
use Rattle.native_array.specs.Layout.{StandsFor}
use Rattle.native_array.specs.Slices.{IsPartOf}
use Rattle.native_array.proofs.Places.{take-cell_list, drop-cell_list}

-- the middle of a window
middle : (cells : ℕ → ℤ) (at n start len : ℕ) → start + len ≤ n → take len (drop start (cell_list cells at n)) ≡ cell_list cells (at + start) len
middle cells at n start len h =
    ap (take len) (drop-cell_list cells at n start (omega arith)) ∙ take-cell_list cells (at + start) (n - start) len (omega arith)

-- a window, cut in three
three : (cells : ℕ → ℤ) (at n start len : ℕ) → start + len ≤ n
    → cell_list cells at n ≡ cell_list cells at start ++ cell_list cells (at + start) len ++ cell_list cells (at + (start + len)) (n - (start + len))
three cells at n start len h =
    let whole : n ≡ (start + len) + (n - (start + len)) = omega arith in
    ap (λ m. cell_list cells at m) whole
    ∙ cell_list-append cells at (start + len) (n - (start + len))
    ∙ ap (λ l. l ++ cell_list cells (at + (start + len)) (n - (start + len))) (cell_list-append cells at start len)

-- a change of the middle alone
changed : (old new : ℕ → ℤ) (at n start len : ℕ) → start + len ≤ n → SameBeyond (at + start) ((at + start) + len) old new
    → cell_list new at n ≡ take start (cell_list old at n) ++ cell_list new (at + start) len ++ drop (start + len) (cell_list old at n)
changed old new at n start len h same =
    let before : cell_list new at start ≡ take start (cell_list old at n) =
    cell_list-same new old at start (λ k lo hi. same k (inl (omega arith))) ∙ sym (take-cell_list old at n start (omega arith)) in
    let behind : cell_list new (at + (start + len)) (n - (start + len)) ≡ drop (start + len) (cell_list old at n) =
    cell_list-same new old (at + (start + len)) (n - (start + len)) (λ k lo hi. same k (inr (omega arith))) ∙ sym (drop-cell_list old at n (start + len) h) in
    three new at n start len h
    ∙ ap (λ l. l ++ cell_list new (at + start) len ++ cell_list new (at + (start + len)) (n - (start + len))) before
    ∙ ap (λ l. take start (cell_list old at n) ++ cell_list new (at + start) len ++ l) behind

module _ (at : ArrayAt) (start len : ℕ) (within : start + len ≤ at.len) where
  part : ArrayAt
  part = record { start = at.start + start; len = len }

  -- the elements after a change
  rest_of : (old new : ℕ → ℤ) (c : Contents) (ys : List ℤ) → StandsFor at old c → Cells ys ≡ Cells (cell_list new (at.start + start) len)
      → SameBeyond (at.start + start) ((at.start + start) + len) old new
      → Cells (take start (elements c) ++ ys ++ drop (start + len) (elements c)) ≡ Cells (cell_list new at.start at.len)
  rest_of old new c ys s t same =
      let xs : elements c ≡ cell_list old at.start at.len = ap elements s in
      let inside : ys ≡ cell_list new (at.start + start) len = ap elements t in
      ap (λ l. Cells (take start l ++ ys ++ drop (start + len) l)) xs
      ∙ ap (λ l. Cells (take start (cell_list old at.start at.len) ++ l ++ drop (start + len) (cell_list old at.start at.len))) inside
      ∙ ap (λ l. Cells l) (sym (changed old new at.start at.len start len within same))

  pub slice_is_part : IsPartOf at (record { start = at.start + start; len = len }) start len
  slice_is_part = record {
    reads = λ cells c s. ap (λ c. Cells (take len (drop start (elements c)))) s ∙ ap (λ l. Cells l) (middle cells at.start at.len start len within);
    writes = λ old new c ys s t same. rest_of old new c ys s t same;
  }
