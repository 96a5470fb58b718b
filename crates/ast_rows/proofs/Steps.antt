-- Steps: a job that has none left traps Budget, and stores before it stay.
use Rattle.std.proofs.Common.{◌≡◌, refl, ap, ◌∙◌, ℕ, pos, List, [], ◌∷◌}
use Rattle.job_base.specs.declared.Trap.{Trap}
use Rattle.frame_ast.specs.Contents.{Contents, Cells, Single}
use Rattle.frame_ast.specs.Kernels.{fresh}
use Rattle.frame_ast.specs.JobRuns.{Ran, run_of}
use Rattle.ast_rows.proofs.Trees.{Place}
use Rattle.ast_rows.proofs.Kernel.{Text, kernel, run, same_run}
use Rattle.ast_rows.proofs.Kernels.{spin, loop}

-- What one Execute of a kernel does with so many steps and these arguments.
pub record Does (k : Text) (steps : ℕ) (args : List Contents) (left : Ran (List Contents)) : Type 0 where
  pub leaves : (at : Place) → run_of (kernel at k) [] steps 1 args ≡ left

computed : {k : Text} {steps : ℕ} {args : List Contents} {left : Ran (List Contents)} → ((at : Place) → run at k [] steps 1 args ≡ left)
    → Does k steps args left
computed {k} {steps} {args} same = record { leaves = λ at. ap (λ run. run [] steps 1 args) (same_run at k) ∙ same at }

-- `for k in 0..5 { }` needs 7 steps: its own and six tests
loop_with_8 : Does loop 8 (Single (pos 0) ∷ []) (record { store = Single (pos 1) ∷ []; traps = [] })
unfolding fresh
loop_with_8 = computed (λ at. refl)

loop_with_7 : Does loop 7 (Single (pos 0) ∷ []) (record { store = Single (pos 0) ∷ []; traps = (0, Trap.Budget) ∷ [] })
unfolding fresh
loop_with_7 = computed (λ at. refl)

-- `a[0] = 1; while 1 { }`: the store stays
spin_with_20 : Does spin 20 (Cells (pos 0 ∷ []) ∷ []) (record { store = Cells (pos 1 ∷ []) ∷ []; traps = (0, Trap.Budget) ∷ [] })
unfolding fresh
spin_with_20 = computed (λ at. refl)

-- no step for the first statement
spin_with_0 : Does spin 0 (Cells (pos 0 ∷ []) ∷ []) (record { store = Cells (pos 0 ∷ []) ∷ []; traps = (0, Trap.Budget) ∷ [] })
unfolding fresh
spin_with_0 = computed (λ at. refl)
