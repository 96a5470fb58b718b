-- A guarded kernel that is run at every index that its list can have does what the old kernel does at those below the
-- list's length.
use Rattle.std.specs.Prelude.{ℕ, ◌+◌, ◌≡◌, pos, [], ◌∷◌, ◌++◌, List}
use Rattle.frame_ast.specs.declared.kernel.Kernel.{Kernel}
use Rattle.frame_ast.specs.Checked.{IsChecked}
use Rattle.frame_ast.specs.JobRuns.{full_steps, deferred_steps}
use Rattle.job_defer.specs.Guarded.{GuardsWords}
use Rattle.kernel_exec.specs.declared.binds.Bind.{Bind}
use Rattle.kernel_exec.specs.declared.binds.Bind.TheVariants.{Array}
use Rattle.kernel_exec.specs.Conditions.{BindsFit}
use Rattle.kernel_exec.specs.Footprint.{IsWritten}
use Rattle.kernel_exec.specs.Laws.{at_indexes}
use Rattle.merge_laws.specs.Graph.{Cells}

-- one word, as an array of one element
abbrev pub word_at : ℕ → Bind
word_at w = Array (record { start = w; len = 1 }) 0

-- Where the word w holds the length n, and the old kernel doesn't write it, n + m indexes of the guarded kernel leave
-- what n indexes of the old one leave, with the same traps.
abbrev pub GuardedIndexesRunAlike : Type 0
GuardedIndexesRunAlike = (old new : Kernel) (binds : List Bind) (w n m : ℕ) (cells : Cells)
    → GuardsWords old new
    → IsChecked old
    → BindsFit old binds
    → ((from to : ℕ) → IsWritten old.params.items binds from to w → ⊥)
    → cells w ≡ pos n
    → at_indexes new (binds ++ word_at w ∷ []) full_steps (n + m) 0 cells
    ≡ at_indexes old binds deferred_steps n 0 cells
