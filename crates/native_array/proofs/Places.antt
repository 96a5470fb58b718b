-- Places, and elements by their places.
use Rattle.std.proofs.Common.{◌≡◌, ◌∙◌, ℕ, zero, suc, ◌+◌, ◌-◌, ◌<◌, ◌≤◌, ℤ, pos, negsuc, ◌∷◌, get_or, take, drop, Result, Ok, Err, refl, ap, arith}
use Rattle.job_base.specs.declared.Trap.{Trap}
use Rattle.job_base.specs.Cells.{cell_list}
use Rattle.job_base.proofs.Windows.{length-cell_list, get_or-cell_list}
use Rattle.frame_ast.specs.Contents.{then_value, place_in, item_at}

pub in_place : (n k : ℕ) (i : ℤ) → place_in n i ≡ Ok k → k < n
in_place n k (pos i) e = grind arith
in_place n k (negsuc i) e = cc

-- the element at a place is the cell at that place
pub item_at-cell_list : (cells : ℕ → ℤ) (start n : ℕ) (i : ℤ) → item_at (cell_list cells start n) i ≡ then_value (place_in n i) (λ k. Ok (cells (start + k)))
item_at-cell_list cells start n i =
    ap (λ m. then_value (place_in m i) (λ k. Ok (get_or (cell_list cells start n) k (pos 0)))) (length-cell_list cells start n) ∙ found (place_in n i) refl
  where
    found : (p : Result ℕ Trap) → place_in n i ≡ p → then_value p (λ k. Ok (get_or (cell_list cells start n) k (pos 0))) ≡ then_value p
        (λ k. Ok (cells (start + k)))
    found (Ok k) e = ap (λ z. Ok z) (get_or-cell_list cells start n k (pos 0) (in_place n k i e))
    found (Err trap) e = refl

-- the first elements, and the others
pub take-cell_list : (cells : ℕ → ℤ) (start n k : ℕ) → k ≤ n → take k (cell_list cells start n) ≡ cell_list cells start k
take-cell_list cells start n zero h = refl
take-cell_list cells start zero (suc k) h = absurd (omega arith)
take-cell_list cells start (suc n) (suc k) h = ap (λ l. cells start ∷ l) (take-cell_list cells (start + 1) n k (omega arith))

pub drop-cell_list : (cells : ℕ → ℤ) (start n k : ℕ) → k ≤ n → drop k (cell_list cells start n) ≡ cell_list cells (start + k) (n - k)
drop-cell_list cells start n zero h =
    let at : start ≡ start + 0 = omega arith in
    let same : n ≡ n - 0 = omega arith in
    ap (λ s. cell_list cells s n) at ∙ ap (λ m. cell_list cells (start + 0) m) same
drop-cell_list cells start zero (suc k) h = absurd (omega arith)
drop-cell_list cells start (suc n) (suc k) h =
    let at : (start + 1) + k ≡ start + suc k = omega arith in
    let same : n - k ≡ suc n - suc k = omega arith in
    drop-cell_list cells (start + 1) n k (omega arith) ∙ (ap (λ s. cell_list cells s (n - k)) at ∙ ap (λ m. cell_list cells (start + suc k) m) same)
