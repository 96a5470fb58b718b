-- A plan as the laws of the merge see it: the graph of its pieces, by their places in script order, and the graph of
-- its jobs.
use Rattle.std.specs.Prelude.{ℕ, suc, Bool, true, false, ◌&&◌, nat_eq, nat_lt, List, [], length, Option, None, Some, slice_get}
use Rattle.job_base.specs.Cells.{cells_of}
use Rattle.merge_laws.specs.Graph.{Cells, PieceGraph, cells_before}
use Rattle.merge_laws.specs.Jobs.{JobGraph}
use Rattle.frame_core.specs.declared.plan.Plan.{Plan}
use Rattle.frame_core.specs.declared.touch.Touch.{Touch}
use Rattle.frame_core.specs.Names.{has_job, is_job, deps_in, waits_in, starts_in, job_at, segment_at}
use Rattle.frame_core.specs.declared.piece.Piece.{Piece}
use Rattle.frame_core.specs.declared.piece.Piece.TheVariants.{OfScript, OfJob}
use Rattle.frame_core.specs.Pieces.{script_order, segment_place, starter_of, place_of, piece_numbered}
use Rattle.frame_core.specs.Touches.{reads_in, writes_in}
use Rattle.frame_core.specs.Effects.{touches, piece_cells}

-- PREDECESSORS. Those of a job's piece are the segment that starts the job and all pieces of its dependencies. Those of
-- a segment are the segment before it and all pieces of the jobs that it waits for.
abbrev pub is_predecessor : Plan → Piece → Piece → Bool
is_predecessor plan (OfScript l) (OfScript k) = nat_eq (suc l) k
is_predecessor plan (OfJob j i) (OfScript k) = has_job (waits_in (segment_at plan k)) (suc j)
is_predecessor plan (OfScript k) (OfJob j i) = is_job (starts_in (segment_at plan k)) (suc j)
is_predecessor plan (OfJob d h) (OfJob j i) = has_job (deps_in (job_at plan j)) (suc d)

-- the piece at a place; past the last one there is nothing

abbrev pub piece_at : Plan → ℕ → Option Piece
piece_at plan p = slice_get (script_order plan) p

abbrev pub touches_at : Plan → Option Piece → List Touch
touches_at plan None = []
touches_at plan (Some x) = touches plan x

abbrev pub precedes_at : Plan → Option Piece → Option Piece → Bool
precedes_at plan (Some x) (Some y) = is_predecessor plan x y
precedes_at plan _ _ = false

abbrev pub is_script : Option Piece → Bool
is_script None = false
is_script (Some (OfScript k)) = true
is_script (Some (OfJob j i)) = false

abbrev pub cells_at : Plan → Option Piece → Cells → Cells
cells_at plan None cells = cells
cells_at plan (Some x) cells = piece_cells plan x cells

-- the cells at first: those of the first words are the plan's, and all others are 0
abbrev pub cells_at_first : Plan → Cells
cells_at_first plan = cells_of plan.first.items

unfoldable pub graph_of : Plan → PieceGraph
graph_of plan = record {
  first = cells_at_first plan;
  count = length (script_order plan);
  reads = λ p w. reads_in (touches_at plan (piece_at plan p)) w;
  writes = λ p w. writes_in (touches_at plan (piece_at plan p)) w;
  precedes = λ q p. precedes_at plan (piece_at plan q) (piece_at plan p);
  is_segment = λ p. is_script (piece_at plan p);
  effect = λ p cells. cells_at plan (piece_at plan p) cells;
}

abbrev pub is_part_of : Option Piece → ℕ → Bool
is_part_of None j = false
is_part_of (Some (OfScript k)) j = false
is_part_of (Some (OfJob d i)) j = nat_eq d j

unfoldable pub jobs_of : Plan → JobGraph
jobs_of plan = record {
  pieces = length (script_order plan);
  jobs = length plan.jobs.items;
  segments = length plan.segments.items;
  is_part = λ p j. is_part_of (piece_at plan p) j;
  segment_at = λ k. segment_place plan.jobs.items plan.segments.items k;
  starter = λ j. starter_of plan j;
  is_dependency = λ d j. nat_lt d (length plan.jobs.items) && has_job (deps_in (job_at plan j)) (suc d);
  waits = λ k j. has_job (waits_in (segment_at plan k)) (suc j);
}

-- THE RUN IN SCRIPT ORDER: the cells before a piece, by its kind and by its number, and those after all pieces.
unfoldable pub before_piece : Plan → Piece → Cells
before_piece plan x = cells_before (graph_of plan) (place_of plan x)

abbrev pub before_number : Plan → ℕ → Cells
before_number plan p = before_piece plan (piece_numbered plan p)

unfoldable pub cells_after : Plan → Cells
cells_after plan = cells_before (graph_of plan) (length (script_order plan))
