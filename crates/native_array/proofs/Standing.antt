-- What words stand for, whatever is called.
use Rattle.std.proofs.Common.{◌≡◌, ◌∙◌, ℕ, zero, suc, ◌+◌, ◌<◌, ◌≤◌, ℤ, pos, ◌∷◌, replicate, refl, sym, ap, arith}
use Rattle.job_base.specs.Cells.{cell_list}
use Rattle.job_base.proofs.Windows.{cell_list-same}
use Rattle.frame_ast.specs.Contents.{Cells, Single}
use Rattle.native_array.specs.Laws.{ZeroWordsAreZeros, OwnWordsDecide}

-- a window of one number
pub cell_list-replicate : (cells : ℕ → ℤ) (start n : ℕ) (v : ℤ) → ((w : ℕ) → start ≤ w → w < start + n → cells w ≡ v) → cell_list cells start n ≡ replicate n v
cell_list-replicate cells start zero v h = refl
cell_list-replicate cells start (suc n) v h =
    ap (λ x. x ∷ cell_list cells (start + 1) n) (h start (omega arith) (omega arith))
    ∙ ap (λ l. v ∷ l) (cell_list-replicate cells (start + 1) n v (λ w lo hi. h w (omega arith) (omega arith)))

pub zero_words_are_zeros : ZeroWordsAreZeros
zero_words_are_zeros = record {
  array = λ at cells h. ap (λ l. Cells l) (sym (cell_list-replicate cells at.start at.len (pos 0) h));
  reference = λ at cells h. ap (λ z. Single z) (sym h);
}

pub own_words_decide : OwnWordsDecide
own_words_decide = record {
  array = λ at a b c h s. s ∙ ap (λ l. Cells l) (cell_list-same a b at.start at.len (λ k lo hi. sym (h k lo hi)));
  reference = λ at a b c h s. s ∙ ap (λ z. Single z) (sym (h at.start (omega arith) (omega arith)));
}
