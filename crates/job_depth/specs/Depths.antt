-- What the depth report says of a plan.
use Rattle.std.specs.Prelude.{ℕ, ◌≡◌, ◌≤◌, ◌<◌, max, List, length, get_or}
use Rattle.std.specs.Int.{div_ceil}
use Rattle.job_base.specs.declared.JobId.{JobId}
use Rattle.frame_core.specs.declared.plan.Plan.{Plan}
use Rattle.frame_core.specs.Names.{job_pieces}
use Rattle.job_depth.specs.declared.report.Depth.{Depth}
use Rattle.job_depth.specs.Rounds.{IsRoundsPlan, HasRounds, pieces_in, Suffice, rounds_taken, level_plan}
use Rattle.job_depth.specs.Chains.{job_count, ChainTo, IsLevel, ChosenTo, IsHighest}

-- LEVELS: each job has its level, `rounds` is the greatest, and the level plan has so many rounds.
pub record HasLevels (plan : Plan) (levels : List ℕ) (rounds : ℕ) : Type 0 where
  pub count : length levels ≡ job_count plan
  pub each : (j : ℕ) → j < job_count plan → IsLevel plan j (get_or levels j 0)
  pub greatest : (j : ℕ) → j < job_count plan → get_or levels j 0 ≤ rounds
  pub reached : 0 < rounds → (j : ℕ) × (j < job_count plan) × (get_or levels j 0 ≡ rounds)
  pub is_plan : IsRoundsPlan plan (level_plan plan levels)
  pub has_rounds : HasRounds plan (level_plan plan levels) rounds

-- THE CHAIN: it has `rounds` jobs. Where there is a job it ends with the least one of the highest level, and before
-- each job of it is the least one of the level below that leads to it.
pub record IsLongestChain (plan : Plan) (levels : List ℕ) (rounds : ℕ) (chain : List JobId) : Type 0 where
  pub long : length chain ≡ rounds
  pub ends : 0 < rounds → (j : ℕ) × IsHighest plan levels j × ChosenTo plan levels chain j × ChainTo plan chain j

-- So no plan of rounds has fewer.
abbrev pub IsFewest : Plan → ℕ → Type 0
IsFewest plan n = (round : ℕ → ℕ) (m : ℕ) → IsRoundsPlan plan round → HasRounds plan round m → n ≤ m

-- THE WIDEST ROUND: the greatest number of pieces in a round, or 0 where there is no job.
pub record IsWidest (plan : Plan) (round : ℕ → ℕ) (rounds widest : ℕ) : Type 0 where
  pub most : (r : ℕ) → 1 ≤ r → r ≤ rounds → pieces_in plan round r ≤ widest
  pub reached : 0 < widest → (r : ℕ) × (1 ≤ r) × (r ≤ rounds) × (pieces_in plan round r ≡ widest)

-- PACKED: there is a plan of so many rounds in which the workers suffice.
abbrev pub IsPackable : Plan → ℕ → ℕ → Type 0
IsPackable plan workers n = (round : ℕ → ℕ) × IsRoundsPlan plan round × HasRounds plan round n
    × Suffice workers plan round

-- LEAST: every plan of rounds in which the workers suffice has at least so many.
abbrev pub IsNeeded : Plan → ℕ → ℕ → Type 0
IsNeeded plan workers n = (round : ℕ → ℕ) (m : ℕ) → IsRoundsPlan plan round → HasRounds plan round m
    → Suffice workers plan round → n ≤ m

-- THE REPORT
pub record IsDepthOf (plan : Plan) (workers : ℕ) (d : Depth) : Type 0 where
  pub workers_are : d.workers ≡ workers
  pub levels : HasLevels plan d.levels.items d.rounds
  pub chain : IsLongestChain plan d.levels.items d.rounds d.chain.items
  pub fewest : IsFewest plan d.rounds
  pub widest : IsWidest plan (level_plan plan d.levels.items) d.rounds d.widest
  pub packed_is : d.packed ≡ rounds_taken workers plan (level_plan plan d.levels.items) d.rounds
  pub packed : IsPackable plan workers d.packed
  pub least_is : d.least ≡ max (div_ceil (job_pieces plan) workers) d.rounds
  pub least : IsNeeded plan workers d.least
