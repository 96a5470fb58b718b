-- A run in script order: the memory before it, and the cells between its pieces.
use Rattle.std.specs.Prelude.{◌≡◌, ℕ, suc, ◌+◌, ◌<◌, Bool, IsTrue}
use Rattle.merge_laws.specs.Graph.{Cells, cells_before}
use Rattle.frame_core.specs.declared.plan.Plan.{Plan}
use Rattle.frame_core.specs.Pieces.{segment_place}
use Rattle.frame_core.specs.Graphs.{graph_of, cells_at_first}

-- a memory allows every word of the plan
abbrev pub AllowsAll : Plan → (ℕ → Bool) → Type 0
AllowsAll plan allowed = (w : ℕ) → w < plan.words → IsTrue (allowed w)

-- Fresh cells are those that the plan has at first.
abbrev pub AreFresh : Plan → Cells → Type 0
AreFresh plan cells = (w : ℕ) → cells w ≡ cells_at_first plan w

-- the cells after segment k and the first i pieces of the job that it starts
abbrev pub before_part : Plan → ℕ → ℕ → Cells
before_part plan k i = cells_before (graph_of plan) (suc (segment_place plan.jobs.items plan.segments.items k + i))
