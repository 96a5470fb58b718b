-- A list that is filled up with 0 has the same cells.
use Rattle.std.proofs.Common.{◌≡◌, ℕ, zero, suc, ◌-◌, ◌≤◌, List, [], ◌∷◌, ◌++◌, length, take, replicate, ℤ, pos, refl, ap, ◌∙◌}
use Rattle.std.proofs.lemmas.List.{take_all}
use Rattle.job_base.specs.Cells.{cells_of}

zeros_behind : (xs : List ℤ) (n w : ℕ) → cells_of (xs ++ replicate n (pos 0)) w ≡ cells_of xs w
zeros_behind [] zero w = refl
zeros_behind [] (suc n) zero = refl
zeros_behind [] (suc n) (suc w) = zeros_behind [] n w
zeros_behind (x ∷ xs) n zero = refl
zeros_behind (x ∷ xs) n (suc w) = zeros_behind xs n w

pub filled_up : (first copy all : List ℤ) (n long : ℕ) → copy ≡ first → length first ≤ n → all ≡ take n copy ++ replicate (n - long) (pos 0)
    → (w : ℕ) → cells_of all w ≡ cells_of first w
filled_up first copy all n long same le e w =
    ap (λ l. cells_of l w) (e ∙ ap (λ l. l ++ replicate (n - long) (pos 0)) (ap (take n) same ∙ take_all n first le))
    ∙ zeros_behind first (n - long) w
