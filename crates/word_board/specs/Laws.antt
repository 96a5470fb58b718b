-- What the rule says of the words of a board, between any two steps.
use Rattle.std.specs.Prelude.{◌≡◌, ◌≢◌, ℕ, ◌<◌, true, map, length, slice_index, Some}
use mathlib.Core.Option.{some}
use lib.ListN.{get_elem?}
use Rattle.atomic_table.specs.Table.{State}
use Rattle.atomic_table.specs.Seated.{TableId}
use Rattle.merge_laws.specs.Countdowns.{AreExact, begun_state, closed_state, ended_state}
use Rattle.frame_core.specs.declared.plan.Plan.{Plan}
use Rattle.frame_core.specs.Pieces.{piece_numbered}
use Rattle.frame_core.specs.Events.{place_numbered}
use Rattle.frame_core.specs.Graphs.{cells_after, is_predecessor, jobs_of}
use Rattle.frame_core.specs.Know.{MayOpen, piece_count, reads}
use Rattle.word_board.specs.declared.view.Held.{Held}
use Rattle.word_board.specs.declared.view.View.{View}
use Rattle.word_board.specs.Words.{cells_in, rests_in, state_word, waits_in}
use Rattle.word_board.specs.Views.{claims, know, local_cells}
use Rattle.word_board.specs.Rule.{Holds, states_at}
use Rattle.word_board.specs.Naming.{board_name}

-- One of the views of a state has a lease, of a piece of the plan.
pub record IsLease (plan : Plan) (s : State ℕ View) (k : ℕ) (h : Held) : Type 0 where
  pub view : View
  pub there : get_elem? s.views k ≡ some view
  pub held : view.lease ≡ Some h
  pub below : h.piece < piece_count plan

-- A word that a leased piece reads holds the lease's cell, whatever other seats did.
abbrev pub LeasedWordsHoldTheirCells : Type 0
LeasedWordsHoldTheirCells = (plan : Plan) (s : State ℕ View) → Holds plan s → (k : ℕ) (h : Held) → IsLease plan s k h
    → (w : ℕ) → reads plan h.piece w ≡ true → cells_in plan s.words w ≡ local_cells plan h w

-- The word of a leased piece says that it was begun.
abbrev pub LeasedPiecesAreBegun : Type 0
LeasedPiecesAreBegun = (plan : Plan) (s : State ℕ View) → Holds plan s → (k : ℕ) (h : Held) → IsLease plan s k h
    → slice_index s.words (state_word plan h.piece) ≡ begun_state

-- No two seats lease one piece.
abbrev pub PiecesAreLeasedOnce : Type 0
PiecesAreLeasedOnce = (plan : Plan) (s : State ℕ View) → Holds plan s → (i k : ℕ) (g h : Held)
    → IsLease plan s i g → IsLease plan s k h → g.piece ≡ h.piece → i ≡ k

-- A piece that isn't closed has only ended predecessors.
abbrev pub OpenPiecesAreReady : Type 0
OpenPiecesAreReady = (plan : Plan) (s : State ℕ View) → Holds plan s → (q p : ℕ) → q < piece_count plan
    → p < piece_count plan → slice_index s.words (state_word plan p) ≢ closed_state
    → is_predecessor plan (piece_numbered plan q) (piece_numbered plan p) ≡ true
    → states_at plan s (place_numbered plan q) ≡ ended_state

-- The word of a piece that some seat may open says closed. So each step that changes a state takes it to the next one:
-- an opening from closed to open, a begin from open to begun, an end from begun to ended.
abbrev pub PiecesToOpenAreClosed : Type 0
PiecesToOpenAreClosed = (plan : Plan) (s : State ℕ View) → Holds plan s → (k p : ℕ) (v : View)
    → get_elem? s.views k ≡ some v → p < piece_count plan → MayOpen plan (know v) p (piece_numbered plan p)
    → slice_index s.words (state_word plan p) ≡ closed_state

-- No two seats may open one piece.
abbrev pub RightsAreHeldOnce : Type 0
RightsAreHeldOnce = (plan : Plan) (s : State ℕ View) → Holds plan s → (i k p : ℕ) (u v : View)
    → get_elem? s.views i ≡ some u → get_elem? s.views k ≡ some v → p < piece_count plan
    → MayOpen plan (know u) p (piece_numbered plan p) → MayOpen plan (know v) p (piece_numbered plan p) → i ≡ k

-- The countdowns are exact: `rest` of a job counts its pieces that aren't ended or for which a count is owed, and
-- `wait` its predecessors that aren't finished or for which there is a duty.
abbrev pub CountdownsAreExact : Type 0
CountdownsAreExact = (plan : Plan) (s : State ℕ View) → Holds plan s
    → AreExact (jobs_of plan) (states_at plan s) (rests_in plan s.words) (waits_in plan s.words)
    (map (claims plan) s.views)

-- Where the first seat ended all segments, the cells are those after the run in script order.
abbrev pub ClosedBoardsAreDone : Type 0
ClosedBoardsAreDone = (plan : Plan) (s : State ℕ View) → Holds plan s → (k : ℕ) (v : View)
    → get_elem? s.views k ≡ some v → v.first ≡ true → v.ended ≡ length plan.segments.items
    → (w : ℕ) → cells_in plan s.words w ≡ cells_after plan w

-- Boards of one name have one table and one plan.
abbrev pub NamesTellBoards : Type 0
NamesTellBoards = (s t : TableId) (p q : Plan) → board_name s p ≡ board_name t q → (s ≡ t) × (p ≡ q)
