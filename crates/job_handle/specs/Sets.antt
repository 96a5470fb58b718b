-- The set of jobs that a handle is.
use Rattle.std.specs.Prelude.{◌≡◌, ℕ, zero, suc, ◌+◌, ◌-◌, ◌/◌, ◌%◌, ◌<◌, ◌≤◌, Bool, true, false, ◌&&◌, not, nat_eq, nat_lt, List, slice_index, slice_index_or, Option, None, Some}
use Rattle.std.specs.Int.{bit_at}
use Rattle.job_base.specs.declared.JobId.{JobId}
use Rattle.job_base.specs.declared.limits.TheConstants.{MOST_JOBS}
use Rattle.frame_ast.specs.Jobs.{Jobs}
use Rattle.job_handle.specs.declared.handle.Handle.{Handle}

-- bit i of a list of words of 64 bits
abbrev pub bit_of : List ℕ → ℕ → Bool
bit_of words i = nat_eq (bit_at (slice_index words (i / 64)) (i % 64)) 1

-- Job j, 1 to `MOST_JOBS`, is bit j - 1. The bound is said here, since an array has no length in a clause.
abbrev pub jobs_of : Handle → Jobs
jobs_of h j = (nat_lt 0 j && nat_lt j (MOST_JOBS + 1)) && bit_of h.words (j - 1)

-- row j - 1 has job j
abbrev pub HaveOwnJobs : ℕ → List Handle → Type 0
HaveOwnJobs made table = (j : ℕ) (d : Handle) → j < made → jobs_of (slice_index_or table j d) (suc j) ≡ true

-- the jobs of a set that aren't in another one
abbrev pub outside : Jobs → Jobs → Jobs
outside a b j = a j && not (b j)

-- the job of a number, where 0 is none
abbrev pub job_numbered : ℕ → Option JobId
job_numbered zero = None
job_numbered (suc j) = Some (record { 0 = suc j })

-- An answer is the least job of a set after job `from` and up to job `to`, or there is none.
abbrev pub IsNext : Jobs → ℕ → ℕ → Option JobId → Type 0
IsNext set from to None = (k : ℕ) → from < k → k ≤ to → set k ≡ false
IsNext set from to (Some j) = (from < j.0) × (j.0 ≤ to) × (set j.0 ≡ true)
    × ((k : ℕ) → from < k → k < j.0 → set k ≡ false)

-- An answer is the greatest job of a set up to job `to`, or there is none.
abbrev pub IsLast : Jobs → ℕ → Option JobId → Type 0
IsLast set to None = (k : ℕ) → 0 < k → k ≤ to → set k ≡ false
IsLast set to (Some j) = (0 < j.0) × (j.0 ≤ to) × (set j.0 ≡ true) × ((k : ℕ) → j.0 < k → k ≤ to → set k ≡ false)
