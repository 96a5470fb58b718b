-- Chains: jobs of which each waits for the one before it.
--
-- Decided here: when jobs are a chain, the level of a job, and which of the longest chains is reported. Jobs go by
-- their places, from 0; a list of jobs has their numbers, from 1.
use Rattle.std.specs.Prelude.{ℕ, suc, ◌≡◌, ◌≤◌, ◌<◌, List, [], ◌∷◌, ◌++◌, length, get_or}
use Rattle.job_base.specs.declared.JobId.{JobId}
use Rattle.frame_core.specs.declared.plan.Plan.{Plan}
use Rattle.frame_core.specs.Names.{pieces_before}
use Rattle.job_depth.specs.Rounds.{Leads}

abbrev pub job_count : Plan → ℕ
job_count plan = length plan.jobs.items

abbrev pub number_of_job : ℕ → JobId
number_of_job j = record { 0 = suc j }

-- Piece p is one of the job's.
pub record IsPartOf (plan : Plan) (j p : ℕ) : Type 0 where
  pub from : pieces_before plan.jobs.items j ≤ p
  pub end : p < pieces_before plan.jobs.items (suc j)

-- Each piece of the one job leads to each piece of the other.
abbrev pub LeadsJob : Plan → ℕ → ℕ → Type 0
LeadsJob plan i j = (p q : ℕ) → IsPartOf plan i p → IsPartOf plan j q → Leads plan p q

-- A chain that ends with a job: the job alone, or the job behind a chain that ends with one that leads to it.
pub data ChainTo (plan : Plan) : List JobId → ℕ → Type 0 where
  alone : {j : ℕ} → j < job_count plan → ChainTo plan (number_of_job j ∷ []) j
  behind : {ids : List JobId} {i j : ℕ} → ChainTo plan ids i → LeadsJob plan i j → j < job_count plan
      → ChainTo plan (ids ++ number_of_job j ∷ []) j

-- The level of a job is the number of jobs of the longest chain that ends with it.
pub record IsLevel (plan : Plan) (j n : ℕ) : Type 0 where
  pub reached : (ids : List JobId) × ChainTo plan ids j × (length ids ≡ n)
  pub longest : (ids : List JobId) → ChainTo plan ids j → length ids ≤ n

-- WHICH CHAIN IS REPORTED. `levels` has the level of each job.

-- The least job of the level below that leads to job j.
pub record IsLeastBefore (plan : Plan) (levels : List ℕ) (i j : ℕ) : Type 0 where
  pub leads : LeadsJob plan i j
  pub below : suc (get_or levels i 0) ≡ get_or levels j 0
  pub least : (d : ℕ) → d < job_count plan → suc (get_or levels d 0) ≡ get_or levels j 0 → LeadsJob plan d j → i ≤ d

-- The chosen chain that ends with a job: before each job is the least one of the level below that leads to it.
pub data ChosenTo (plan : Plan) (levels : List ℕ) : List JobId → ℕ → Type 0 where
  first : {j : ℕ} → j < job_count plan → get_or levels j 0 ≡ 1 → ChosenTo plan levels (number_of_job j ∷ []) j
  next : {ids : List JobId} {i j : ℕ} → ChosenTo plan levels ids i → IsLeastBefore plan levels i j → j < job_count plan
      → ChosenTo plan levels (ids ++ number_of_job j ∷ []) j

-- The least job of the highest level.
pub record IsHighest (plan : Plan) (levels : List ℕ) (j : ℕ) : Type 0 where
  pub job : j < job_count plan
  pub highest : (d : ℕ) → d < job_count plan → get_or levels d 0 ≤ get_or levels j 0
  pub least : (d : ℕ) → d < job_count plan → get_or levels d 0 ≡ get_or levels j 0 → j ≤ d
