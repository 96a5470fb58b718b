-- The array of a list's elements is a view of the list.
use Rattle.std.proofs.Common.{◌≡◌, ◌∙◌, ℕ, ◌+◌, inl, ℤ, pos, List, length, sym, ap, arith}
use Rattle.job_base.specs.Cells.{cell_list}
use Rattle.job_base.proofs.Windows.{length-cell_list}
use Rattle.frame_ast.specs.Contents.{Cells, elements, with_elements}
use Rattle.native_list.specs.declared.ListAt.{ListAt}
use Rattle.native_list.specs.Layout.{HoldsItems}
use Rattle.native_list.specs.Words.{len_words, array_words}
use Rattle.native_list.specs.Views.{IsViewOf}
use Rattle.native_list.proofs.Standing.{length_is}

module _ (at : ListAt) (cells : ℕ → ℤ) where
  shown : (xs : List ℤ) → HoldsItems at cells xs → Cells xs ≡ Cells (cell_list cells (at.start + 1) (len_words at cells))
  shown xs s = ap (λ l. Cells l) (sym s.elements ∙ ap (cell_list cells (at.start + 1)) (sym (length_is at cells xs s)))

  changed : (new : ℕ → ℤ) (xs ys : List ℤ) → HoldsItems at cells xs → ys ≡ cell_list new (at.start + 1) (len_words at cells) → new at.start ≡ cells at.start
      → HoldsItems at new ys
  changed new xs ys s is same =
      let long : length ys ≡ length xs = ap length is ∙ length-cell_list new (at.start + 1) (len_words at cells) ∙ length_is at cells xs s in
      let within = s.within in
      record {
        count = same ∙ s.count ∙ ap (λ n. pos n) (sym long);
        within = omega (arith, long);
        elements = ap (cell_list new (at.start + 1)) (long ∙ sym (length_is at cells xs s)) ∙ sym is;
      }

  pub is_view : IsViewOf at cells (array_words at cells)
  is_view = record {
    reads = λ c s. ap (λ c. Cells (elements c)) s.1 ∙ shown s.0 s.2;
    writes = λ new c ys s t same. (ys, ap (with_elements ys) s.1, changed new s.0 ys s.2 (ap elements t) (same at.start (inl (omega arith))));
  }
