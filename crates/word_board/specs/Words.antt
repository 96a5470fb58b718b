-- The words of a board: word 0, the cells, the states of pieces by their numbers, and `rest` and `wait` of each job.
use Rattle.std.specs.Prelude.{ℕ, ◌+◌, nat_lt, if◌then◌else◌, List, length, slice_index, Option, None, Some}
use Rattle.std.specs.Int.{cast_signed}
use mir.Syntax.{w64}
use Rattle.merge_laws.specs.Graph.{Cells}
use Rattle.merge_laws.specs.Countdowns.{closed_state}
use Rattle.frame_core.specs.declared.piece.Piece.{Piece}
use Rattle.frame_core.specs.declared.plan.Plan.{Plan}
use Rattle.frame_core.specs.Pieces.{number_of}
use Rattle.frame_core.specs.Graphs.{piece_at}
use Rattle.frame_core.specs.Know.{piece_count}

-- WHERE THEY STAND

abbrev pub cell_word : ℕ → ℕ
cell_word w = 1 + w

abbrev pub state_base : Plan → ℕ
state_base plan = 1 + plan.words

abbrev pub rest_base : Plan → ℕ
rest_base plan = state_base plan + piece_count plan

abbrev pub wait_base : Plan → ℕ
wait_base plan = rest_base plan + length plan.jobs.items

abbrev pub word_count : Plan → ℕ
word_count plan = wait_base plan + length plan.jobs.items

abbrev pub state_word : Plan → ℕ → ℕ
state_word plan p = state_base plan + p

-- of the job at place j, from 0
abbrev pub rest_word : Plan → ℕ → ℕ
rest_word plan j = rest_base plan + j

abbrev pub wait_word : Plan → ℕ → ℕ
wait_word plan j = wait_base plan + j

-- WHAT THEY HOLD. Each reading is guarded: outside its window it is 0, whatever the next words are.

abbrev pub window : List ℕ → ℕ → ℕ → ℕ → ℕ
window words from n i = if nat_lt i n then slice_index words (from + i) else 0

abbrev pub cells_in : Plan → List ℕ → Cells
cells_in plan words w = cast_signed w64 (window words 1 plan.words w)

abbrev pub rests_in : Plan → List ℕ → ℕ → ℕ
rests_in plan words j = window words (rest_base plan) (length plan.jobs.items) j

abbrev pub waits_in : Plan → List ℕ → ℕ → ℕ
waits_in plan words j = window words (wait_base plan) (length plan.jobs.items) j

-- the state of a piece, by its place in script order; past the last piece it is closed
abbrev pub state_of : Plan → List ℕ → Option Piece → ℕ
state_of plan words None = closed_state
state_of plan words (Some x) = window words (state_base plan) (piece_count plan) (number_of plan x)

abbrev pub states_in : Plan → List ℕ → ℕ → ℕ
states_in plan words q = state_of plan words (piece_at plan q)
