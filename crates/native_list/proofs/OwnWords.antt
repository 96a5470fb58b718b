-- What words stand for, whatever is called.
use Rattle.std.proofs.Common.{◌≡◌, ◌∙◌, ℕ, ◌+◌, ℤ, List, [], length, refl, sym, ap, arith}
use Rattle.job_base.specs.Cells.{cell_list}
use Rattle.job_base.specs.Forms.{AlikeWithin}
use Rattle.job_base.proofs.Windows.{cell_list-same}
use Rattle.frame_ast.specs.Contents.{Items}
use Rattle.native_list.specs.declared.ListAt.{ListAt}
use Rattle.native_list.specs.Layout.{end_of, HoldsItems}
use Rattle.native_list.specs.Laws.{ZeroWordsAreEmpty, OwnWordsDecide}
use Rattle.native_list.proofs.Standing.{length_is}

pub zero_words_are_empty : ZeroWordsAreEmpty
zero_words_are_empty at cells h = (
  [],
  refl,
  record {
    count = h at.start (omega arith) (omega arith);
    within = omega arith;
    elements = refl;
  },
)

still_holds : (at : ListAt) (a b : ℕ → ℤ) (xs : List ℤ) → AlikeWithin at.start (end_of at) a b → HoldsItems at a xs → HoldsItems at b xs
still_holds at a b xs h s =
    let within = s.within in
    record {
      count = h at.start (omega arith) (omega arith) ∙ s.count;
      within = s.within;
      elements = cell_list-same b a (at.start + 1) (length xs) (λ k lo hi. h k (omega arith) (omega arith)) ∙ s.elements;
    }

same_items : (at : ListAt) (cells : ℕ → ℤ) (xs ys : List ℤ) → HoldsItems at cells xs → HoldsItems at cells ys → xs ≡ ys
same_items at cells xs ys s t =
    sym s.elements ∙ ap (cell_list cells (at.start + 1)) (sym (length_is at cells xs s) ∙ length_is at cells ys t) ∙ t.elements

pub own_words_decide : OwnWordsDecide
own_words_decide = record {
  same = λ at a b c h s. (s.0, s.1, still_holds at a b s.0 h s.2);
  once = λ at cells c d s t. s.1 ∙ ap (λ l. Items at.cap l) (same_items at cells s.0 t.0 s.2 t.2) ∙ sym t.1;
}
