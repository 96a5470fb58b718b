-- Each call's word form stands for its effect, and reads and changes words of the container alone.
use Rattle.std.proofs.Common.{◌≡◌, ◌∙◌, ℕ, ◌+◌, ℤ, cond, eqb, set, Result, Ok, Err, refl, sym, ap, subst, arith}
use Rattle.job_base.specs.declared.Trap.{Trap}
use Rattle.job_base.specs.Cells.{with_cell, cell_list}
use Rattle.job_base.specs.Forms.{AlikeWithin, SameBeyond, Reaches}
use Rattle.job_base.proofs.Windows.{with_cell-other, length-cell_list, cell_list-with_cell-inside}
use Rattle.frame_ast.specs.Contents.{Contents, Cells, elements, then_value, place_in, item_at}
use Rattle.native_array.specs.declared.array.ArrayAt.{ArrayAt}
use Rattle.native_array.specs.Layout.{end_of, StandsFor, IsWordForm}
use Rattle.native_array.specs.Words.{stored, get_words, set_words}
use Rattle.native_array.specs.Effects.{done, get_effect, set_effect}
use Rattle.native_array.proofs.Places.{in_place, item_at-cell_list}

-- cells that agree on words agree there after the same write
pub alike-with_cell : (start end : ℕ) (a b : ℕ → ℤ) (w : ℕ) (v u : ℤ) → AlikeWithin start end a b → u ≡ v
    → AlikeWithin start end (with_cell a w v) (with_cell b w u)
alike-with_cell start end a b w v u h e k lo hi = λ i. cond (eqb k w) (e i) (h k lo hi i)

module _ (at : ArrayAt) where
  same_element : (a b : ℕ → ℤ) → AlikeWithin at.start (end_of at) a b → (i : ℤ) (p : Result ℕ Trap) → place_in at.len i ≡ p
      → then_value p (λ k. Ok (b (at.start + k))) ≡ then_value p (λ k. Ok (a (at.start + k)))
  same_element a b h i (Ok k) e = let below = in_place at.len k i e in ap (λ z. Ok z) (h (at.start + k) (omega arith) (omega arith))
  same_element a b h i (Err trap) e = refl

  pub get_form : (i : ℤ) → IsWordForm at (λ cells. (get_words at cells i, cells)) (get_effect i)
  get_form i = record {
    stands = λ cells c s. (sym (ap (λ c. item_at (elements c) i) s ∙ item_at-cell_list cells at.start at.len i), s);
    changes = λ cells w out. refl;
    answer = λ a b h. same_element a b h i (place_in at.len i) refl;
    reads = λ a b h. h;
  }

  stored_stands : (cells : ℕ → ℤ) (i v : ℤ) (p : Result ℕ Trap) → place_in at.len i ≡ p
      → Reaches (StandsFor at) (stored at cells v p) (done tt (Cells (cell_list cells at.start at.len))
      (then_value (then_value p (λ k. Ok (set (cell_list cells at.start at.len) k v))) (λ ys. Ok (Cells ys))))
  stored_stands cells i v (Ok k) e = (refl, ap (λ ys. Cells ys) (sym (cell_list-with_cell-inside cells at.start at.len k v (in_place at.len k i e))))
  stored_stands cells i v (Err trap) e = (refl, refl)

  set_stands : (cells : ℕ → ℤ) (i v : ℤ) (c : Contents) → StandsFor at cells c → Reaches (StandsFor at) (set_words at cells i v) (set_effect i v c)
  set_stands cells i v c s =
      let xs = cell_list cells at.start at.len in
      let effect = λ (n : ℕ). done tt (Cells xs) (then_value (then_value (place_in n i) (λ k. Ok (set xs k v))) (λ ys. Ok (Cells ys))) in
      subst (λ c. Reaches (StandsFor at) (set_words at cells i v) (set_effect i v c)) (sym s)
      (subst (λ n. Reaches (StandsFor at) (set_words at cells i v) (effect n)) (sym (length-cell_list cells at.start at.len))
      (stored_stands cells i v (place_in at.len i) refl))

  stored_changes : (cells : ℕ → ℤ) (i v : ℤ) (p : Result ℕ Trap) → place_in at.len i ≡ p → SameBeyond at.start (end_of at) cells (stored at cells v p).1
  stored_changes cells i v (Ok k) e w out = let below = in_place at.len k i e in with_cell-other cells (at.start + k) v w (omega arith)
  stored_changes cells i v (Err trap) e w out = refl

  same_answer : (a b : ℕ → ℤ) (v : ℤ) (p : Result ℕ Trap) → (stored at b v p).0 ≡ (stored at a v p).0
  same_answer a b v (Ok k) = refl
  same_answer a b v (Err trap) = refl

  stored_alike : (a b : ℕ → ℤ) (v : ℤ) (p : Result ℕ Trap) → AlikeWithin at.start (end_of at) a b
      → AlikeWithin at.start (end_of at) (stored at a v p).1 (stored at b v p).1
  stored_alike a b v (Ok k) h = alike-with_cell at.start (end_of at) a b (at.start + k) v v h refl
  stored_alike a b v (Err trap) h = h

  pub set_form : (i v : ℤ) → IsWordForm at (λ cells. set_words at cells i v) (set_effect i v)
  set_form i v = record {
    stands = λ cells c s. set_stands cells i v c s;
    changes = λ cells. stored_changes cells i v (place_in at.len i) refl;
    answer = λ a b h. same_answer a b v (place_in at.len i);
    reads = λ a b h. stored_alike a b v (place_in at.len i) h;
  }
