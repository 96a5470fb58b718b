-- What a board keeps of its plan, as tables.
use Rattle.std.specs.Prelude.{◌≡◌, ℕ, suc, ◌+◌, ◌<◌, ◌≤◌, true, nat_eq, if◌then◌else◌, List, [], ◌∷◌, Vec, length, Option, None, Some, slice_get, slice_index}
use Rattle.std.specs.declared.alloc.Global.{Global}
use Rattle.job_base.specs.declared.JobId.{JobId}
use Rattle.job_base.specs.declared.PieceId.{PieceId}
use Rattle.frame_core.specs.declared.piece.Piece.{Piece}
use Rattle.frame_core.specs.declared.piece.Piece.TheVariants.{OfScript, OfJob}
use Rattle.frame_core.specs.declared.plan.Plan.{Plan}
use Rattle.frame_core.specs.declared.touch.Touch.{Touch}
use Rattle.frame_core.specs.Names.{has_job, is_job, waits_in, starts_in, segment_at, pieces_before}
use Rattle.frame_core.specs.Pieces.{piece_numbered}
use Rattle.lock_board.specs.Rooms.{spans_of}
use Rattle.frame_core.specs.Know.{due_after, piece_count, reads}
use Rattle.frame_core.specs.Names.{job_pieces}

-- the number of the job of a piece, and 0 of a segment
abbrev pub job_number : Piece → ℕ
job_number (OfScript k) = 0
job_number (OfJob j i) = suc j

abbrev pub AreJobNumbers : Plan → List ℕ → Type 0
AreJobNumbers plan jobs = (p : ℕ) → p < job_pieces plan → slice_index jobs p ≡ job_number (piece_numbered plan p)

-- where the pieces of the first jobs end
abbrev pub AreEnds : Plan → List ℕ → Type 0
AreEnds plan ends = (j : ℕ) → j < length ends → slice_index ends j ≡ pieces_before plan.jobs.items j

-- the spans of each piece, by its number
abbrev pub AreSpans : Plan → List (Vec Touch Global) → Type 0
AreSpans plan lists = (p : ℕ) (v : Vec Touch Global) → slice_get lists p ≡ Some v → v.items ≡ spans_of plan p

-- the touched words are the plan's
abbrev pub AreWithin : Plan → List (Vec Touch Global) → Type 0
AreWithin plan lists = (p i : ℕ) (v : Vec Touch Global) (t : Touch) → slice_get lists p ≡ Some v
    → slice_get v.items i ≡ Some t
    → t.from < t.end → t.end ≤ plan.words

-- how often the job of that number stands in a list
abbrev pub times : ℕ → List JobId → ℕ
times j [] = 0
times j (id ∷ more) = (if nat_eq id.0 j then 1 else 0) + times j more

-- the jobs in the row at a place
abbrev pub row_of : Option (Vec JobId Global) → List JobId
row_of None = []
row_of (Some v) = v.items

abbrev pub row : List (Vec JobId Global) → ℕ → List JobId
row rows j = row_of (slice_get rows j)

-- The row of a job, at its place, has each job that depends on it once, and no other.
abbrev pub AreFollowers : Plan → List (Vec JobId Global) → Type 0
AreFollowers plan rows = (j e : ℕ) → j < length plan.jobs.items → times e (row rows j) ≡ due_after plan (suc j) e

-- the numbers in a list are those of so many jobs
abbrev pub NameSome : ℕ → List JobId → Type 0
NameSome count ids = (i : ℕ) (id : JobId) → slice_get ids i ≡ Some id → (0 < id.0) × (id.0 < count + 1)

-- the jobs that each segment waits for
abbrev pub AreWaits : Plan → List (Vec JobId Global) → Type 0
AreWaits plan lists = (k j : ℕ) (v : Vec JobId Global) → slice_get lists k ≡ Some v
    → has_job v.items j ≡ has_job (waits_in (segment_at plan k)) j

-- the numbers in a list are those of jobs
abbrev pub NameJobs : Plan → List (Vec JobId Global) → Type 0
NameJobs plan lists = (k i : ℕ) (v : Vec JobId Global) (id : JobId) → slice_get lists k ≡ Some v
    → slice_get v.items i ≡ Some id
    → (0 < id.0) × (id.0 ≤ length plan.jobs.items)

-- the job that each segment starts
abbrev pub AreStarts : Plan → List (Option JobId) → Type 0
AreStarts plan starts = (k : ℕ) (o : Option JobId) (j : ℕ) → slice_get starts k ≡ Some o
    → is_job o j ≡ is_job (starts_in (segment_at plan k)) j

abbrev pub StartJobs : Plan → List (Option JobId) → Type 0
StartJobs plan starts = (k : ℕ) (id : JobId) → slice_get starts k ≡ Some (Some id)
    → (0 < id.0) × (id.0 ≤ length plan.jobs.items)

-- the words that pieces read are the plan's
abbrev pub ReadsWithin : Plan → Type 0
ReadsWithin plan = (p w : ℕ) → reads plan p w ≡ true → w < plan.words

-- WHAT SEATS HOLD

-- A leased piece is one of the plan's, and so is the job of which a count is owed.
abbrev pub LeasesPiece : Plan → Option PieceId → Type 0
LeasesPiece plan lease = (p : PieceId) → lease ≡ Some p → p.0 < piece_count plan

abbrev pub OwesJob : Plan → Option JobId → Type 0
OwesJob plan owed = (j : JobId) → owed ≡ Some j → (0 < j.0) × (j.0 < length plan.jobs.items + 1)
