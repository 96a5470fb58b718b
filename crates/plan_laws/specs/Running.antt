-- A job in pieces does what the whole job does, to words and to contents.
use Rattle.std.specs.Prelude.{ℕ, ◌*◌, ◌≡◌, ◌<◌, ◌≤◌, nat_eq, min, if◌then◌else◌, List, ◌++◌, map, Some}
use Rattle.frame_ast.specs.declared.kernel.Kernel.{Kernel}
use Rattle.frame_ast.specs.Contents.{Contents}
use Rattle.frame_ast.specs.Arguments.{arguments}
use Rattle.frame_ast.specs.Kernels.{execution}
use Rattle.frame_ast.specs.JobRuns.{Ran, indexes, full_steps}
use Rattle.frame_ast.specs.Checked.{IsChecked}
use Rattle.kernel_exec.specs.declared.binds.Bind.{Bind}
use Rattle.kernel_exec.specs.Binds.{widths}
use Rattle.kernel_exec.specs.Conditions.{BindsFit}
use Rattle.kernel_exec.specs.Layout.{StandFor}
use Rattle.kernel_exec.specs.Laws.{at_indexes}
use Rattle.merge_laws.specs.Graph.{Cells}
use Rattle.merge_laws.specs.Pieces.{Piece}
use Rattle.frame_core.specs.declared.plan.JobPlan.{JobPlan}
use Rattle.frame_core.specs.declared.plan.Plan.{Plan}
use Rattle.frame_core.specs.Names.{job_at, kernel_of, pieces_of}
use Rattle.frame_core.specs.Output.{job_trap}
use Rattle.frame_core.specs.Ordered.{JobFits}
use Rattle.plan_laws.specs.Drafts.{parts, parts_traps, cells_past}

-- WORDS AND CONTENTS

-- so many indexes from one on, on contents, each with so many steps
abbrev pub on_contents : Kernel → List ℕ → ℕ → ℕ → ℕ → List Contents → Ran (List Contents)
on_contents kernel ws steps n from args = indexes
    (λ index args. execution (arguments ws index) kernel.body.statements.items steps index args)
    n from args

-- the words afterwards stand for the contents afterwards, and the traps are the same
pub record AreAlike (binds : List Bind) (on_words : Ran Cells) (ran : Ran (List Contents)) : Type 0 where
  pub store : StandFor binds on_words.store ran.store
  pub traps : on_words.traps ≡ ran.traps

abbrev pub WordsRunAsContents : Type 0
WordsRunAsContents = (kernel : Kernel) (binds : List Bind) (steps n from : ℕ) (cells : Cells) (args : List Contents)
    → IsChecked kernel
    → BindsFit kernel binds
    → StandFor binds cells args
    → AreAlike
    binds
    (at_indexes kernel binds steps n from cells)
    (on_contents kernel (widths binds) steps n from args)

-- PIECES

-- how many indexes the first pieces have together
abbrev pub indexes_before : JobPlan → ℕ → ℕ
indexes_before job i =
    if job.parallel then min (i * job.cut.step) job.cut.n else (if nat_eq i 0 then 0 else job.cut.n)

-- what they make of the cells
abbrev pub ran_before : JobPlan → Kernel → ℕ → Cells → Ran Cells
ran_before job kernel i cells = at_indexes kernel job.binds.items full_steps (indexes_before job i) 0 cells

-- The first pieces of a job, after the cells before it: a word that isn't an own word of the job is what the first
-- indexes make of it, and their traps are those of the first indexes.
pub record AreFirstParts (plan : Plan) (j : ℕ) (job : JobPlan) (kernel : Kernel) (earlier : List Piece) (i : ℕ)
    : Type 0 where
  pub cells : (w : ℕ) → w < plan.cells
      → cells_past plan (parts plan j i ++ earlier) w ≡ (ran_before job kernel i (cells_past plan earlier)).store w
  pub traps : parts_traps plan earlier j i ≡ map (job_trap j) (ran_before job kernel i (cells_past plan earlier)).traps

abbrev pub PiecesRunAsOne : Type 0
PiecesRunAsOne = (plan : Plan) (j : ℕ) (job : JobPlan) (kernel : Kernel) (earlier : List Piece)
    → job_at plan j ≡ Some job
    → kernel_of plan job ≡ Some kernel
    → IsChecked kernel
    → JobFits plan job kernel
    → (i : ℕ)
    → i ≤ pieces_of job
    → AreFirstParts plan j job kernel earlier i

-- and so all of them
abbrev pub AllIndexesRun : Type 0
AllIndexesRun = (plan : Plan) (job : JobPlan) (kernel : Kernel)
    → JobFits plan job kernel
    → indexes_before job (pieces_of job) ≡ job.cut.n
