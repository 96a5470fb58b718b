-- What kernels do to cells at some indexes, by computation over what is written.
use Rattle.std.proofs.Common.{◌≡◌, ap, ℕ, ℤ, List, take}
use Rattle.frame_ast.specs.Kernels.{in_turn, statement, fresh}
use Rattle.frame_ast.specs.JobRuns.{Ran, indexes, full_steps}
use Rattle.kernel_exec.specs.declared.binds.Bind.{Bind}
use Rattle.kernel_exec.specs.Words.{words}
use Rattle.kernel_exec.specs.Laws.{at_indexes}
use Rattle.ast_rows.proofs.Trees.{Place}
use Rattle.ast_rows.proofs.Kernel.{Text, kernel, all_folded, taken, same_folds}

abbrev pub Run : Type 0
Run = List Bind → ℕ → ℕ → (ℕ → ℤ) → Ran (ℕ → ℤ)

-- the meaning, and the same by recursion over what is written
abbrev pub meant : Place → Text → Run
meant at k binds n from cells = at_indexes (kernel at k) binds full_steps n from cells

abbrev pub computed : Place → Text → Run
computed at k binds n from cells = indexes (λ index c. in_turn (take 1000 (all_folded at (statement (words binds index) index) k.body)) (fresh full_steps c)) n
    from cells

pub same_run : (at : Place) (k : Text) → meant at k ≡ computed at k
same_run at k = λ i binds n from cells. indexes (λ index c. in_turn (taken at (statement (words binds index) index) k.body
    (same_folds at (statement (words binds index) index) k.body) i) (fresh full_steps c)) n from cells

-- a run of a kernel, as it computes
pub run_at : (at : Place) (k : Text) (binds : List Bind) (n from : ℕ) → ◌≡◌ {A = (ℕ → ℤ) → Ran (ℕ → ℤ)} (meant at k binds n from) (computed at k binds n from)
run_at at k binds n from = ap (λ (r : Run). r binds n from) (same_run at k)
