-- How levels are found: the jobs that a job waits for directly, and the best of them.
use Rattle.std.specs.Prelude.{ℕ, zero, suc, ◌≡◌, ◌≤◌, ◌<◌, ◌⊎◌, Bool, true, false, ◌||◌, ◌&&◌, nat_eq, nat_lt, if◌then◌else◌, List, [], ◌∷◌, length, get_or, Option, Some, None}
use Rattle.job_base.specs.declared.JobId.{JobId}
use Rattle.frame_core.specs.declared.plan.Plan.{Plan}
use Rattle.frame_core.specs.Names.{has_job, waits_in, deps_in, segment_at, job_at}
use Rattle.frame_core.specs.Pieces.{starter_of}
use Rattle.job_depth.specs.declared.levels.Best.{Best}
use Rattle.job_depth.specs.Chains.{job_count, number_of_job}

-- Job n, by its number, is waited for by one of the first segments.
abbrev pub is_awaited : Plan → ℕ → ℕ → Bool
is_awaited plan zero n = false
is_awaited plan (suc k) n = is_awaited plan k n || has_job (waits_in (segment_at plan k)) n

-- Job n, by its number, is a direct predecessor of the job at place j: a dependency, or awaited before the job's start.
abbrev pub is_direct : Plan → ℕ → ℕ → Bool
is_direct plan j n = is_awaited plan (suc (starter_of plan j)) n || has_job (deps_in (job_at plan j)) n

-- the level of a job by its number, and 0 for none
abbrev pub level_of : List ℕ → ℕ → ℕ
level_of levels zero = 0
level_of levels (suc j) = get_or levels j 0

-- the number of a job, and 0 for none
abbrev pub number_of : Option JobId → ℕ
number_of None = 0
number_of (Some id) = id.0

abbrev pub beats : Best → ℕ → ℕ → Bool
beats b level job = nat_lt b.level level || (nat_eq level b.level && nat_lt job (number_of b.job))

abbrev pub better : Best → ℕ → JobId → Best
better b level id = if beats b level id.0 then record { level = level; job = Some id } else b

abbrev pub best_among : List ℕ → Best → List JobId → Best
best_among levels b [] = b
best_among levels b (id ∷ more) = best_among levels (better b (level_of levels id.0) id) more

abbrev pub nothing : Best
nothing = record { level = 0; job = None }

abbrev pub AreWithin : ℕ → List JobId → Type 0
AreWithin n [] = Unit {0}
AreWithin n (id ∷ more) = (0 < id.0) × (id.0 ≤ n) × AreWithin n more

-- The least job of the highest level among those that pass a test; nothing where none does.
pub record IsBest (levels : List ℕ) (p : ℕ → Bool) (b : Best) : Type 0 where
  pub above : (n : ℕ) → p n ≡ true → level_of levels n ≤ b.level
  pub least : (n : ℕ) → p n ≡ true → level_of levels n ≡ b.level → number_of b.job ≤ n
  pub is : (b ≡ nothing) ⊎ ((p (number_of b.job) ≡ true) × (level_of levels (number_of b.job) ≡ b.level)
      × (0 < b.level))

-- The level of the job at place j, and the job before it on its chain, were found from its direct predecessors.
pub record IsFound (plan : Plan) (levels : List ℕ) (before : List (Option JobId)) (j : ℕ) : Type 0 where
  pub best : Best
  pub is_best : IsBest levels (is_direct plan j) best
  pub level : get_or levels j 0 ≡ suc best.level
  pub job : get_or before j None ≡ best.job

pub record AreFound (plan : Plan) (levels : List ℕ) (before : List (Option JobId)) : Type 0 where
  pub count : length levels ≡ job_count plan
  pub before_count : length before ≡ job_count plan
  pub each : (j : ℕ) → j < job_count plan → IsFound plan levels before j
  -- no level is greater than the number of its job
  pub small : (j : ℕ) → j < job_count plan → get_or levels j 0 ≤ suc j

-- The least job of the highest level among the first ones, by its number; nothing where all levels are 0.
pub record IsTopOf (levels : List ℕ) (m : ℕ) (b : Best) : Type 0 where
  pub above : (j : ℕ) → j < m → get_or levels j 0 ≤ b.level
  pub least : (j : ℕ) → j < m → get_or levels j 0 ≡ b.level → number_of b.job ≤ suc j
  pub is : (b ≡ nothing) ⊎ ((j : ℕ) × (j < m) × (b.job ≡ Some (number_of_job j)) × (get_or levels j 0 ≡ b.level)
      × (0 < b.level))

abbrev pub IsTop : List ℕ → Best → Type 0
IsTop levels b = IsTopOf levels (length levels) b
