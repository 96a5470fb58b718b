-- What a seat knows, read from what it holds.
use Rattle.std.specs.Prelude.{ℕ, zero, suc, Bool, false, if◌then◌else◌, List, Option, None, Some, slice_index_or, slice_index, ℤ, pos}
use Rattle.job_base.specs.declared.JobId.{JobId}
use Rattle.job_base.specs.declared.PieceId.{PieceId}
use Rattle.job_base.specs.Cells.{cells_of}
use Rattle.merge_laws.specs.Graph.{Cells}
use Rattle.frame_core.specs.declared.plan.Plan.{Plan}
use Rattle.frame_core.specs.Graphs.{before_number}
use Rattle.frame_core.specs.Know.{Know, reads}
use Rattle.lock_board.specs.declared.seat.Held.{Held}
use Rattle.lock_board.specs.Rooms.{place_of}

abbrev pub piece_of : Option PieceId → Option ℕ
piece_of None = None
piece_of (Some p) = Some p.0

abbrev pub job_of : Option JobId → Option ℕ
job_of None = None
job_of (Some j) = Some j.0

-- The room has the cells of the leased piece's footprint, each at its place. Other cells of a lease are nowhere: they
-- count as those before the piece in script order.
abbrev pub seen_cells : Plan → Option PieceId → List ℤ → Cells
seen_cells plan None room w = pos 0
seen_cells plan (Some p) room w = if reads plan p.0 w then cells_of room
    (place_of plan p.0 w) else before_number plan p.0 w

-- by the numbers of jobs, from 1; there is no job 0
abbrev pub due_of : List ℕ → ℕ → ℕ
due_of dues zero = 0
due_of dues (suc j) = slice_index dues j

abbrev pub seen_of : List Bool → ℕ → Bool
seen_of seen zero = false
seen_of seen (suc j) = slice_index_or seen j false

abbrev pub know_of : Plan → Held → Know
know_of plan h = record {
  lease = piece_of h.lease;
  cells = seen_cells plan h.lease h.room.items;
  owed = job_of h.owed;
  dues = λ j. due_of h.dues.items j;
  rights = λ p. slice_index_or h.rights.items p false;
  seen = λ j. seen_of h.seen.items j;
  first = h.first;
  ended = h.ended;
  opened = h.opened;
}
