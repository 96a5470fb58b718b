-- The pieces of a plan: their script order, their numbers and their places.
use Rattle.std.specs.Prelude.{ℕ, zero, suc, ◌+◌, ◌*◌, ◌-◌, ◌≡◌, ◌<◌, nat_lt, if◌then◌else◌, List, [], ◌∷◌, ◌++◌, length, Option, None, Some, slice_get}
use Rattle.job_base.specs.declared.JobId.{JobId}
use Rattle.frame_core.specs.declared.piece.Piece.{Piece}
use Rattle.frame_core.specs.declared.piece.Piece.TheVariants.{OfScript, OfJob}
use Rattle.frame_core.specs.declared.plan.JobPlan.{JobPlan}
use Rattle.frame_core.specs.declared.plan.Segment.{Segment}
use Rattle.frame_core.specs.declared.plan.Plan.{Plan}
use Rattle.frame_core.specs.Names.{is_job, pieces_of, pieces_before, job_pieces}

-- A piece is a segment, by its number from 0, or one of a job: the place of the job among the plan's jobs, and which of
-- its pieces, from 0.

-- SCRIPT ORDER: segment 0, the pieces of the job that it starts, segment 1, and so on.

-- pieces of a job, from one on
abbrev pub parts_from : ℕ → ℕ → ℕ → List Piece
parts_from j i zero = []
parts_from j i (suc n) = OfJob j i ∷ parts_from j (suc i) n

abbrev pub parts_of : ℕ → Option JobPlan → List Piece
parts_of j None = []
parts_of j (Some x) = parts_from j 0 (pieces_of x)

abbrev pub started : List JobPlan → Option JobId → List Piece
started jobs None = []
started jobs (Some id) = parts_of (id.0 - 1) (slice_get jobs (id.0 - 1))

-- the segments from number k on, each with the pieces that it starts
abbrev pub order_from : List JobPlan → ℕ → List Segment → List Piece
order_from jobs k [] = []
order_from jobs k (s ∷ more) = OfScript k ∷ (started jobs s.starts ++ order_from jobs (suc k) more)

unfoldable pub script_order : Plan → List Piece
script_order plan = order_from plan.jobs.items 0 plan.segments.items

-- PLACES in script order. The laws of the merge name pieces by them.

-- the place of a segment: the segments before it, and the pieces that these start
abbrev pub segment_place : List JobPlan → List Segment → ℕ → ℕ
segment_place jobs segments zero = 0
segment_place jobs [] (suc k) = 0
segment_place jobs (s ∷ more) (suc k) = suc (length (started jobs s.starts) + segment_place jobs more k)

-- the first segment that starts the job of that number
abbrev pub starter_among : List Segment → ℕ → ℕ
starter_among [] n = 0
starter_among (s ∷ more) n = if is_job s.starts n then 0 else suc (starter_among more n)

abbrev pub starter_of : Plan → ℕ → ℕ
starter_of plan j = starter_among plan.segments.items (suc j)

unfoldable pub place_of : Plan → Piece → ℕ
place_of plan (OfScript k) = segment_place plan.jobs.items plan.segments.items k
place_of plan (OfJob j i) = suc (segment_place plan.jobs.items plan.segments.items (starter_of plan j) + i)

-- NUMBERS. The pieces of job 1 come first, from 0 on; the segments come after all pieces of jobs.

abbrev pub number_of : Plan → Piece → ℕ
number_of plan (OfScript k) = job_pieces plan + k
number_of plan (OfJob j i) = pieces_before plan.jobs.items j + i

-- the piece of a number, where these are the jobs from place j on
abbrev pub piece_among : List JobPlan → ℕ → ℕ → Piece
piece_among [] j p = OfScript p
piece_among (x ∷ more) j p = if nat_lt p (pieces_of x) then OfJob j p else piece_among more (suc j) (p - pieces_of x)

abbrev pub piece_numbered : Plan → ℕ → Piece
piece_numbered plan p = piece_among plan.jobs.items 0 p

-- THE OWN WORD of a piece of a job, which notes its traps.
abbrev pub own_word : Plan → ℕ → ℕ → ℕ
own_word plan j i = plan.cells + (pieces_before plan.jobs.items j + i)

-- the piece is one of the plan's
abbrev pub IsPieceOf : Plan → Piece → Type 0
IsPieceOf plan (OfScript k) = k < length plan.segments.items
IsPieceOf plan (OfJob j i) = (x : JobPlan) × (slice_get plan.jobs.items j ≡ Some x) × (i < pieces_of x)
