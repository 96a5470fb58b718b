-- The first elements of a list are its first cells.
use Rattle.std.proofs.Common.{◌≡◌, ℕ, zero, suc, ◌+◌, ◌<◌, ◌≤◌, ℤ, List, [], ◌∷◌, length, take, refl, ap, ◌∙◌, arith}
use Rattle.job_base.specs.Cells.{cells_of, cell_list}

taken_from : (xs : List ℤ) (cells : ℕ → ℤ) (start n : ℕ) → n ≤ length xs → ((k : ℕ) → k < n → cells_of xs k ≡ cells (start + k))
    → take n xs ≡ cell_list cells start n
taken_from xs cells start zero le same = refl
taken_from [] cells start (suc n) le same = absurd (omega arith)
taken_from (x ∷ xs) cells start (suc n) le same =
    let here : start + 0 ≡ start = omega arith in
    let first : x ≡ cells start = same 0 (omega arith) ∙ ap cells here in
    let rest = taken_from xs cells (start + 1) n (omega arith) (λ k lt.
    let at : start + suc k ≡ (start + 1) + k = omega arith in
    same (suc k) (omega arith) ∙ ap cells at) in
    λ i. first i ∷ rest i

pub taken_cells : (xs : List ℤ) (n : ℕ) → n ≤ length xs → take n xs ≡ cell_list (cells_of xs) 0 n
taken_cells xs n le = taken_from xs (cells_of xs) 0 n le (λ k lt. let at : k ≡ 0 + k = omega arith in ap (cells_of xs) at)
