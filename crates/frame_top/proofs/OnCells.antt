-- A plan on plain cells.
use Rattle.std.proofs.Common.{◌≡◌, ℕ, ℤ, Bool, List, length, ap, ◌∙◌, arith}
use Rattle.std.specs.Prelude.{nat_lt}
use Rattle.std.proofs.lemmas.Bool.Decides.{nat_tests}
use Rattle.job_base.specs.Cells.{cells_of}
use Rattle.merge_laws.specs.Graph.{Cells}
use Rattle.frame_core.specs.declared.plan.Plan.{Plan}
use Rattle.frame_core.specs.Graphs.{cells_after}
use Rattle.plan_run.specs.ScriptOrder.{AllowsAll}
use Rattle.frame_top.specs.Cells.{AreCellsOf}

-- the words below a number
abbrev below : ℕ → ℕ → Bool
below n w = nat_lt w n

-- memories that allow the same words are as long
same_length : (a b : ℕ) → below a ≡ below b → a ≡ b
same_length a b e =
    let at_a : nat_lt a a ≡ nat_lt a b = ap (λ (f : ℕ → Bool). f a) e in
    let at_b : nat_lt b a ≡ nat_lt b b = ap (λ (f : ℕ → Bool). f b) e in
    grind (arith, nat_tests)

module _ (plan : Plan) (old : List ℤ) (words : length old ≡ plan.words) where
  pub allows_all : AllowsAll plan (below (length old))
  allows_all w lt = grind (arith, nat_tests)

  pub are_left : (new : List ℤ) → below (length new) ≡ below (length old) → cells_of new ≡ cells_after plan → AreCellsOf plan new
  are_left new same cells = record {
    size = same_length (length new) (length old) same ∙ words;
    each = λ w lt. ap (λ (f : Cells). f w) cells;
  }
