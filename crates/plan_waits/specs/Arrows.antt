-- The arrows of a plan: for each job the transitive reduction of what leads to it.
--
-- Decided here: which waits of a job are drawn, and how each is marked. That one job leads to another is said in
-- `job_depth` (`Chains`), by the pieces of the plan and their predecessors.
--
-- i and j are places of jobs among the plan's jobs, from 0.
use Rattle.std.specs.Prelude.{ℕ, suc, ◌-◌, ◌≡◌, ◌<◌, ◌⊎◌, true, if◌then◌else◌, List, length, Some, slice_get}
use Rattle.std.specs.declared.alloc.Global.{Global}
use Rattle.std.specs.declared.vec.Vec.{Vec}
use Rattle.frame_core.specs.declared.plan.Plan.{Plan}
use Rattle.frame_core.specs.Pieces.{starter_of}
use Rattle.job_depth.specs.Chains.{job_count, LeadsJob}
use Rattle.job_depth.specs.Direct.{is_awaited, is_direct}
use Rattle.plan_waits.specs.declared.arrow.Cause.{Cause}
use Rattle.plan_waits.specs.declared.arrow.Cause.TheVariants.{Depends, Completed}
use Rattle.plan_waits.specs.declared.arrow.Arrow.{Arrow}

-- the place of the job that an arrow comes from
abbrev pub place_from : Arrow → ℕ
place_from x = x.from.0 - 1

-- The script had completed job n, by its number, before it scheduled the job at place j; else that job depends on it.
abbrev pub cause_of : Plan → ℕ → ℕ → Cause
cause_of plan j n = if is_awaited plan (suc (starter_of plan j)) n then Completed else Depends

-- One of some arrows comes from job i, or from one that job i leads to.
abbrev pub IsLedTo : Plan → List Arrow → ℕ → Type 0
IsLedTo plan arrows i = (a : ℕ) × (x : Arrow) × (slice_get arrows a ≡ Some x)
    × ((i ≡ place_from x) ⊎ LeadsJob plan i (place_from x))

-- The arrows of job j.
pub record IsReduction (plan : Plan) (j : ℕ) (arrows : List Arrow) : Type 0 where
  -- each comes from a job that it waits for directly
  pub each : (a : ℕ) (x : Arrow) → slice_get arrows a ≡ Some x → is_direct plan j x.from.0 ≡ true
  pub cause : (a : ℕ) (x : Arrow) → slice_get arrows a ≡ Some x → x.cause ≡ cause_of plan j x.from.0
  -- each job that leads to it has an arrow, or leads to one that has
  pub all : (i : ℕ) → i < job_count plan → LeadsJob plan i j → IsLedTo plan arrows i
  -- they fall, and no arrow's job leads to another's
  pub apart : (a b : ℕ) (x y : Arrow) → a < b → slice_get arrows a ≡ Some x → slice_get arrows b ≡ Some y
      → (y.from.0 < x.from.0) × (LeadsJob plan (place_from y) (place_from x) → ⊥)

-- Each job has its arrows.
pub record AreArrows (plan : Plan) (found : List (Vec Arrow Global)) : Type 0 where
  pub count : length found ≡ job_count plan
  pub each : (j : ℕ) (arrows : Vec Arrow Global) → slice_get found j ≡ Some arrows → IsReduction plan j arrows.items
