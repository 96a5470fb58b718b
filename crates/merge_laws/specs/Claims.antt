-- What each participant of a run holds beside its lease: what it still has to count and to release, and what it may
-- open.
use Rattle.std.specs.Prelude.{◌≡◌, ℕ, zero, suc, ◌+◌, Bool, true, false, ◌||◌, List, [], ◌∷◌, nat_eq, if◌then◌else◌, Option, Some, None}

-- a predecessor of a job: the segment that starts it, or a job that it depends on
pub data Predecessor : Type 0 where
  by_segment : ℕ → Predecessor
  by_job : ℕ → Predecessor

-- The duty to release a job from a predecessor that is finished.
pub record Duty : Type 0 where
  pub predecessor : Predecessor
  pub job : ℕ

pub record Claims : Type 0 where
  -- it was joined into another one, and holds nothing
  pub spent : Bool
  -- 0 for the first participant alone, which runs the segments
  pub number : ℕ
  -- the job of a piece that it ended and hasn't counted
  pub owed : Option ℕ
  pub duties : List Duty
  -- the pieces of jobs that it may open
  pub rights : List ℕ
  -- the jobs that it saw finished
  pub seen : List ℕ
  -- of the first participant: how many segments it ended, and whether it opened the next one
  pub ended : ℕ
  pub opened : Bool

abbrev pub IsFirst : Claims → Type 0
IsFirst v = (v.number ≡ 0) × (v.spent ≡ false)

-- the sum over all participants
abbrev pub total : (Claims → ℕ) → List Claims → ℕ
total f [] = 0
total f (v ∷ vs) = f v + total f vs

-- 1 where it owes a count of the job
abbrev pub owed_for : ℕ → Option ℕ → ℕ
owed_for j None = 0
owed_for j (Some i) = if nat_eq i j then 1 else 0

abbrev pub owes : ℕ → Claims → ℕ
owes j v = owed_for j v.owed

-- how many duties it has on the job
abbrev pub duties_on : ℕ → List Duty → ℕ
duties_on j [] = 0
duties_on j (d ∷ ds) = if nat_eq d.job j then suc (duties_on j ds) else duties_on j ds

abbrev pub dues : ℕ → Claims → ℕ
dues j v = duties_on j v.duties

abbrev pub is_of_segment : Predecessor → Bool
is_of_segment (by_segment k) = true
is_of_segment (by_job j) = false

-- whether one of the duties comes from a segment
abbrev pub has_segment_duty : List Duty → Bool
has_segment_duty [] = false
has_segment_duty (d ∷ ds) = is_of_segment d.predecessor || has_segment_duty ds

-- The lists of duties that a participant can keep. Its rights can be kept as `numbers_of` and `without_number`.

-- the duties from one predecessor, on each of the first n jobs that pass the test
abbrev pub duties_from : Predecessor → (ℕ → Bool) → ℕ → List Duty
duties_from from test zero = []
duties_from from test (suc n) = if test n then record { predecessor = from; job = n }
    ∷ duties_from from test n else duties_from from test n

-- the duties without the first one on the job
abbrev pub without_duty : ℕ → List Duty → List Duty
without_duty j [] = []
without_duty j (d ∷ ds) = if nat_eq d.job j then ds else d ∷ without_duty j ds
