-- What a seat knows, on whatever board, and what each call makes of it.
use Rattle.std.specs.Prelude.{◌≡◌, ℕ, zero, suc, ◌+◌, ◌-◌, ◌<◌, Bool, true, false, ◌||◌, ◌&&◌, not, nat_eq, nat_le, nat_lt, if◌then◌else◌, ℤ, pos, Option, None, Some, length}
use Rattle.job_base.specs.declared.JobId.{JobId}
use Rattle.job_base.specs.Cells.{with_cell}
use Rattle.merge_laws.specs.Graph.{Cells}
use Rattle.frame_core.specs.declared.plan.Plan.{Plan}
use Rattle.frame_core.specs.Names.{has_job, is_job, deps_in, waits_in, starts_in, job_at, segment_at, pieces_before, job_pieces}
use Rattle.frame_core.specs.declared.piece.Piece.{Piece}
use Rattle.frame_core.specs.declared.piece.Piece.TheVariants.{OfScript, OfJob}
use Rattle.frame_core.specs.Pieces.{piece_numbered}
use Rattle.frame_core.specs.Touches.{reads_in, writes_in}
use Rattle.frame_core.specs.Effects.{touches}
use Rattle.frame_core.specs.Graphs.{before_number}

-- Pieces go by their numbers here, and jobs by theirs, from 1: as the calls of a board take them.
pub record Know : Type 0 where
  -- the piece of its lease, and the cells that it sees
  pub lease : Option ℕ
  pub cells : Cells
  -- the job of a piece that it ended and hasn't counted
  pub owed : Option ℕ
  -- how many duties it has to release the job
  pub dues : ℕ → ℕ
  -- the pieces of jobs that it may open, and the jobs that it saw finished
  pub rights : ℕ → Bool
  pub seen : ℕ → Bool
  -- it is the first seat, which runs the segments
  pub first : Bool
  -- of the first seat: how many segments it ended, and whether it opened the next one
  pub ended : ℕ
  pub opened : Bool

-- where there is no lease the cells are 0
abbrev pub no_cells : Cells
no_cells w = pos 0

-- what a seat of a new board knows
abbrev pub new_seat : Bool → Know
new_seat first = record {
  lease = None;
  cells = no_cells;
  owed = None;
  dues = λ j. 0;
  rights = λ p. false;
  seen = λ j. false;
  first = first;
  ended = 0;
  opened = false;
}

-- FOOTPRINTS BY NUMBERS

abbrev pub reads : Plan → ℕ → ℕ → Bool
reads plan p w = reads_in (touches plan (piece_numbered plan p)) w

abbrev pub writes : Plan → ℕ → ℕ → Bool
writes plan p w = writes_in (touches plan (piece_numbered plan p)) w

abbrev pub piece_count : Plan → ℕ
piece_count plan = job_pieces plan + length plan.segments.items

-- WHAT THE CALLS MAKE OF IT

-- no lease, and no count owed
pub record IsFree (k : Know) : Type 0 where
  pub lease : k.lease ≡ None
  pub owed : k.owed ≡ None

-- a piece was begun, where the answer is true
abbrev pub begun : Plan → Know → ℕ → Bool → Know
begun plan k p true = record k { lease = Some p; cells = before_number plan p }
begun plan k p false = k

abbrev pub stored : Know → ℕ → ℤ → Know
stored k w v = record k { cells = with_cell k.cells w v }

-- 1 for the job of that number
abbrev pub due_once : Option JobId → ℕ → ℕ
due_once started j = if is_job started j then 1 else 0

-- After a job's piece a count is owed. After a segment there is the duty to release the job that it starts.
abbrev pub ended_piece : Plan → Know → Piece → Know
ended_piece plan k (OfJob j i) = record k { lease = None; cells = no_cells; owed = Some (suc j) }
ended_piece plan k (OfScript s) = record k {
  lease = None;
  cells = no_cells;
  dues = λ j. k.dues j + due_once (starts_in (segment_at plan s)) j;
  ended = k.ended + 1;
  opened = false;
}

abbrev pub ended : Plan → Know → ℕ → Know
ended plan k p = ended_piece plan k (piece_numbered plan p)

-- 1 where the job d depends on the job j
abbrev pub due_after : Plan → ℕ → ℕ → ℕ
due_after plan j zero = 0
due_after plan j (suc d) = if has_job (deps_in (job_at plan d)) j then 1 else 0

-- A count was settled. Where that was the last piece of a job the duties come to release what depends on it.
abbrev pub counted : Plan → Know → Option JobId → Know
counted plan k None = record k { owed = None }
counted plan k (Some id) = record k { owed = None; dues = λ d. k.dues d + due_after plan id.0 d }

-- the piece is one of the job's
abbrev pub is_of : Plan → ℕ → ℕ → Bool
is_of plan zero p = false
is_of plan (suc j) p = nat_le (pieces_before plan.jobs.items j) p && nat_lt p (pieces_before plan.jobs.items (suc j))

abbrev pub less_once : (ℕ → ℕ) → ℕ → ℕ → ℕ
less_once dues j d = if nat_eq d j then dues d - 1 else dues d

-- A duty ended. Where that was the last predecessor of the job its pieces may be opened.
abbrev pub released : Plan → Know → ℕ → Bool → Know
released plan k j true = record k { dues = less_once k.dues j; rights = λ p. k.rights p || is_of plan j p }
released plan k j false = record k { dues = less_once k.dues j }

-- a piece was opened
abbrev pub opened_by : Know → ℕ → Piece → Know
opened_by k p (OfJob j i) = record k { rights = λ q. k.rights q && not (nat_eq q p) }
opened_by k p (OfScript s) = record k { opened = true }

abbrev pub opened : Plan → Know → ℕ → Know
opened plan k p = opened_by k p (piece_numbered plan p)

abbrev pub found : Know → ℕ → Bool → Know
found k j answer = record k { seen = λ i. k.seen i || (nat_eq i j && answer) }

-- WHAT THE CALLS NEED

-- the first seat may open a segment: the next one, once, where it saw all jobs finished that the segment waits for
pub record MayOpenSegment (plan : Plan) (k : Know) (s : ℕ) : Type 0 where
  pub first : k.first ≡ true
  pub next : s ≡ k.ended
  pub below : s < length plan.segments.items
  pub unopened : k.opened ≡ false
  pub waited : (j : ℕ) → has_job (waits_in (segment_at plan s)) j ≡ true → k.seen j ≡ true

abbrev pub MayOpen : Plan → Know → ℕ → Piece → Type 0
MayOpen plan k p (OfJob j i) = k.rights p ≡ true
MayOpen plan k p (OfScript s) = MayOpenSegment plan k s

-- segments are for the first seat
abbrev pub MayBegin : Know → Piece → Type 0
MayBegin k (OfJob j i) = Unit {0}
MayBegin k (OfScript s) = k.first ≡ true

-- k is old but for its cells
pub record IsStill (old k : Know) : Type 0 where
  pub lease : k.lease ≡ old.lease
  pub owed : k.owed ≡ old.owed
  pub dues : k.dues ≡ old.dues
  pub rights : k.rights ≡ old.rights
  pub seen : k.seen ≡ old.seen
  pub first : k.first ≡ old.first
  pub ended : k.ended ≡ old.ended
  pub opened : k.opened ≡ old.opened
