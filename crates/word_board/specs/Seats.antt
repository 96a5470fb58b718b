-- What the fields of boards and seats say of one another.
use Rattle.std.specs.Prelude.{◌≡◌, ℕ, suc, ◌+◌, ◌-◌, ◌<◌, true, List, length, slice_index, Some}
use Rattle.std.specs.Int.{cast_signed}
use mir.Syntax.{w64}
use Rattle.atomic_table.specs.Seated.{TableId}
use Rattle.atomic_table.specs.declared.shared.Seat.{Seat}
use Rattle.merge_laws.specs.Countdowns.{closed_state}
use Rattle.frame_core.specs.declared.piece.Piece.{Piece}
use Rattle.frame_core.specs.declared.piece.Piece.TheVariants.{OfScript, OfJob}
use Rattle.frame_core.specs.declared.plan.Plan.{Plan}
use Rattle.frame_core.specs.Names.{job_pieces, pieces_before, deps_in, job_at}
use Rattle.frame_core.specs.Pieces.{piece_numbered}
use Rattle.frame_core.specs.Graphs.{cells_at_first}
use Rattle.frame_core.specs.Know.{piece_count, reads}
use Rattle.word_board.specs.declared.view.Held.{Held}
use Rattle.word_board.specs.declared.view.View.{View}
use Rattle.word_board.specs.Words.{cell_word, state_word, rest_base, wait_base, word_count}

-- SEATS

abbrev pub view : Seat ℕ View → View
view seat = seat.me.0

-- The seat is one of the table, whose key is the plan.
pub record IsSeatOf (table : TableId) (plan : Plan) (seat : Seat ℕ View) : Type 0 where
  pub same : seat.table_id ≡ table
  pub plan_is : (view seat).plan ≡ plan
  pub size : table.words ≡ word_count plan

-- the number of the job of a piece, and 0 of a segment
abbrev pub job_number : Piece → ℕ
job_number (OfScript k) = 0
job_number (OfJob j i) = suc j

-- The piece that a seat keeps is that of its lease,
abbrev pub KeepsLeased : View → ℕ → Type 0
KeepsLeased v p = (h : Held) → v.lease ≡ Some h → (h.piece ≡ p) × (p < piece_count v.plan)

-- and one of the job that it owes a count of.
abbrev pub KeepsOwed : View → ℕ → Type 0
KeepsOwed v p = (j : ℕ) → v.owed ≡ Some j → (0 < j) × (job_number (piece_numbered v.plan p) ≡ j)

-- BOARDS

-- The words that pieces read are the plan's. (A board keeps this of its plan.)
abbrev pub ReadsWithin : Plan → Type 0
ReadsWithin plan = (p w : ℕ) → reads plan p w ≡ true → w < plan.words

-- the job of each piece of a job, by the piece's number
abbrev pub AreJobNumbers : Plan → List ℕ → Type 0
AreJobNumbers plan jobs = (p : ℕ) → p < job_pieces plan → slice_index jobs p ≡ job_number (piece_numbered plan p)

-- New words: the cells are the first of the plan, all pieces are closed, and nothing is counted or released.
pub record AreNew (plan : Plan) (words : List ℕ) : Type 0 where
  pub size : length words ≡ word_count plan
  -- the word that a split loads
  pub split : slice_index words 0 ≡ 0
  pub cells : (w : ℕ) → w < plan.words → cast_signed w64 (slice_index words (cell_word w)) ≡ cells_at_first plan w
  pub states : (p : ℕ) → p < piece_count plan → slice_index words (state_word plan p) ≡ closed_state
  -- the pieces of each job
  pub rests : (j : ℕ) → j < length plan.jobs.items
      → slice_index words (rest_base plan + j) ≡ pieces_before plan.jobs.items (suc j) - pieces_before plan.jobs.items j
  -- its segment and its dependencies
  pub waits : (j : ℕ) → j < length plan.jobs.items
      → slice_index words (wait_base plan + j) ≡ 1 + length (deps_in (job_at plan j))
