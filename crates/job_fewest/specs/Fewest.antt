-- The fewest jobs of a set that lead to all of it.
--
-- Decided here: when some jobs are the transitive reduction of a set, where each job has a row with itself and all that
-- it waits for. How they are found is said nowhere.
use Rattle.std.specs.Prelude.{ℕ, ◌-◌, ◌≡◌, ◌<◌, ◌↔◌, true, List, Some, slice_get}
use Rattle.job_base.specs.declared.JobId.{JobId}
use Rattle.frame_ast.specs.Jobs.{Jobs}
use Rattle.job_handle.specs.declared.handle.Handle.{Handle}
use Rattle.job_handle.specs.Sets.{jobs_of}

-- Job m leads to job k: its row has it.
abbrev pub Leads : List Handle → ℕ → ℕ → Type 0
Leads rows m k = (row : Handle) × (slice_get rows (m - 1) ≡ Some row) × (jobs_of row k ≡ true)

-- One of some jobs leads to job k.
abbrev pub IsLedTo : List Handle → List JobId → ℕ → Type 0
IsLedTo rows ids k = (i : ℕ) × (x : JobId) × (slice_get ids i ≡ Some x) × Leads rows x.0 k

pub record IsFewest (rows : List Handle) (wanted : Jobs) (ids : List JobId) : Type 0 where
  -- each is of the set
  pub each : (i : ℕ) (x : JobId) → slice_get ids i ≡ Some x → wanted x.0 ≡ true
  -- each of the set is led to by one of them
  pub all : (k : ℕ) → wanted k ≡ true → IsLedTo rows ids k
  -- they fall, and none leads to another
  pub apart : (i j : ℕ) (x y : JobId) → i < j → slice_get ids i ≡ Some x → slice_get ids j ≡ Some y
      → (y.0 < x.0) × (Leads rows x.0 y.0 → ⊥)

-- A set has all that some jobs lead to, and nothing else.
abbrev pub IsClosure : List Handle → List JobId → Jobs → Type 0
IsClosure rows ids set = (k : ℕ) → (set k ≡ true) ↔ IsLedTo rows ids k
