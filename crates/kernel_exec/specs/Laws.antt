-- The footprint is kept: what a kernel does at some indexes rests on the words that they read, and changes none but
-- those that they write. It is said of one index, and of indexes that follow one another, as a piece of a job has.
use Rattle.std.specs.Prelude.{◌≡◌, ◌≢◌, ◌⊎◌, ℕ, ◌+◌, ◌≤◌, IsTrue, ℤ, List, ◌++◌, Some, slice_get}
use Rattle.frame_ast.specs.declared.kernel.Kernel.{Kernel}
use Rattle.frame_ast.specs.declared.kernel.Param.{Param}
use Rattle.frame_ast.specs.Contents.{Contents}
use Rattle.frame_ast.specs.Arguments.{arguments}
use Rattle.frame_ast.specs.Checked.{may_write, IsChecked}
use Rattle.frame_ast.specs.Kernels.{Outcome, execution, store_after, trap_after}
use Rattle.frame_ast.specs.JobRuns.{Ran, indexes}
use Rattle.kernel_exec.specs.declared.binds.Bind.{Bind}
use Rattle.kernel_exec.specs.Binds.{own_of, widths}
use Rattle.kernel_exec.specs.Layout.{StandFor}
use Rattle.kernel_exec.specs.Words.{words}
use Rattle.kernel_exec.specs.Footprint.{IsRead, IsWritten}
use Rattle.kernel_exec.specs.Conditions.{BindsFit}

-- ---- what a kernel means for words

-- at an index, with so many steps
abbrev pub at_index : Kernel → List Bind → ℕ → ℕ → (ℕ → ℤ) → Outcome (ℕ → ℤ)
at_index kernel binds steps index cells = execution (words binds index) kernel.body.statements.items steps index cells

-- at n indexes from one on, in order
abbrev pub at_indexes : Kernel → List Bind → ℕ → ℕ → ℕ → (ℕ → ℤ) → Ran (ℕ → ℤ)
at_indexes kernel binds steps n from cells = indexes (λ index cells. at_index kernel binds steps index cells) n from
    cells

-- Indexes that follow one another may be cut anywhere.
pub record IndexesAreCut : Type 0 where
  pub store : (kernel : Kernel) (binds : List Bind) (steps m n from : ℕ) (cells : ℕ → ℤ)
      → (at_indexes kernel binds steps (m + n) from cells).store ≡
      (at_indexes kernel binds steps n (from + m) (at_indexes kernel binds steps m from cells).store).store
  pub traps : (kernel : Kernel) (binds : List Bind) (steps m n from : ℕ) (cells : ℕ → ℤ)
      → (at_indexes kernel binds steps (m + n) from cells).traps
      ≡ (at_indexes kernel binds steps m from cells).traps
      ++ (at_indexes kernel binds steps n (from + m) (at_indexes kernel binds steps m from cells).store).traps

-- ---- words and contents

-- From words that stand for contents a kernel meets the trap that it meets on the contents, or none, and the words
-- stand for the contents afterwards.
pub record WordsStandForContents : Type 0 where
  pub trap : (kernel : Kernel) (binds : List Bind) (steps index : ℕ) (cells : ℕ → ℤ) (contents : List Contents)
      → IsChecked kernel
      → BindsFit kernel binds
      → StandFor binds cells contents
      → trap_after (at_index kernel binds steps index cells)
      ≡ trap_after (execution (arguments (widths binds) index) kernel.body.statements.items steps index contents)
  pub contents : (kernel : Kernel) (binds : List Bind) (steps index : ℕ) (cells : ℕ → ℤ) (contents : List Contents)
      → IsChecked kernel
      → BindsFit kernel binds
      → StandFor binds cells contents
      → StandFor binds (store_after (at_index kernel binds steps index cells))
      (store_after (execution (arguments (widths binds) index) kernel.body.statements.items steps index contents))

-- ---- it changes what is written

pub record OnlyWrittenWordsChange : Type 0 where
  pub at_one : (kernel : Kernel) (binds : List Bind) (steps index : ℕ) (cells : ℕ → ℤ) (w : ℕ) → IsChecked kernel
      → BindsFit kernel binds
      → (IsWritten kernel.params.items binds index (index + 1) w → ⊥)
      → store_after (at_index kernel binds steps index cells) w ≡ cells w
  pub at_many : (kernel : Kernel) (binds : List Bind) (steps n from : ℕ) (cells : ℕ → ℤ) (w : ℕ) → IsChecked kernel
      → BindsFit kernel binds
      → (IsWritten kernel.params.items binds from (from + n) w → ⊥)
      → (at_indexes kernel binds steps n from cells).store w ≡ cells w

-- ---- what is read decides

-- two memories agree on words
abbrev pub AgreeOn : (ℕ → Type 0) → (ℕ → ℤ) → (ℕ → ℤ) → Type 0
AgreeOn these a b = (w : ℕ) → these w → b w ≡ a w

-- New cells agree wherever the old ones did.
abbrev pub StayAlike : (ℕ → ℤ) → (ℕ → ℤ) → (ℕ → ℤ) → (ℕ → ℤ) → Type 0
StayAlike a b new new' = (w : ℕ) → b w ≡ a w → new' w ≡ new w

-- From two memories that agree on what is read the same trap comes, or none, and they go on agreeing where they do.
pub record ReadWordsDecide : Type 0 where
  pub at_one : (kernel : Kernel) (binds : List Bind) (steps index : ℕ) (a b : ℕ → ℤ) → IsChecked kernel
      → BindsFit kernel binds
      → AgreeOn (IsRead kernel.params.items binds index (index + 1)) a b
      → (trap_after (at_index kernel binds steps index a) ≡ trap_after (at_index kernel binds steps index b))
      × StayAlike a b (store_after (at_index kernel binds steps index a))
      (store_after (at_index kernel binds steps index b))
  pub at_many : (kernel : Kernel) (binds : List Bind) (steps n from : ℕ) (a b : ℕ → ℤ) → IsChecked kernel
      → BindsFit kernel binds
      → AgreeOn (IsRead kernel.params.items binds from (from + n)) a b
      → ((at_indexes kernel binds steps n from a).traps ≡ (at_indexes kernel binds steps n from b).traps)
      × StayAlike a b (at_indexes kernel binds steps n from a).store (at_indexes kernel binds steps n from b).store

-- ---- footprints

-- what is written is read, in this sense
abbrev pub WrittenWordsAreRead : Type 0
WrittenWordsAreRead = (params : List Param) (binds : List Bind) (from to w : ℕ) → IsWritten params binds from to w
    → IsRead params binds from to w

-- more indexes have more words
pub record FootprintsGrow : Type 0 where
  pub read : (params : List Param) (binds : List Bind) (from to from' to' w : ℕ) → from' ≤ from → to ≤ to'
      → IsRead params binds from to w → IsRead params binds from' to' w
  pub written : (params : List Param) (binds : List Bind) (from to from' to' w : ℕ) → from' ≤ from → to ≤ to'
      → IsWritten params binds from to w → IsWritten params binds from' to' w

-- of each bind that may be written an index owns a part
abbrev pub HaveOwnParts : Kernel → List Bind → Type 0
HaveOwnParts kernel binds = (x : ℕ) (b : Bind) → IsTrue (may_write kernel.params.items x) → slice_get binds x ≡ Some b
    → own_of b ≢ 0

-- Then what some indexes write others don't read.
abbrev pub OwnPartsAreApart : Type 0
OwnPartsAreApart =
    (kernel : Kernel) (binds : List Bind) (from to from' to' w : ℕ) → BindsFit kernel binds → HaveOwnParts kernel binds
    → (to ≤ from') ⊎ (to' ≤ from)
    → IsWritten kernel.params.items binds from to w → IsRead kernel.params.items binds from' to' w → ⊥
