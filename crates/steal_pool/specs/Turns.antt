-- A run by turns: how far the script's thread is between two of its turns, what was said until then, and what a turn
-- answers. Who calls the turns, and when, is decided by the caller alone.
use Rattle.std.specs.Prelude.{◌≡◌, ℕ, ◌<◌, ◌≤◌, Bool, true, false, List, length, take, Option, Some}
use Rattle.frame_core.specs.Reports.{IsReportOf}
use Rattle.frame_core.specs.declared.plan.Plan.{Plan}
use Rattle.frame_core.specs.Know.{Know}
use Rattle.frame_core.specs.Names.{has_job, segment_at, waits_in}
use Rattle.frame_core.specs.Output.{lines_of, plan_traps, refused_of}
use Rattle.plan_run.specs.Says.{SaysTo}
use Rattle.plan_run.specs.declared.run_end.RunEnd.{RunEnd}
use Rattle.steal_pool.specs.declared.place.Place.{Place}
use Rattle.steal_pool.specs.declared.standing.Standing.{Standing}
use Rattle.steal_pool.specs.declared.turns.ScriptTurn.{ScriptTurn}
use Rattle.steal_pool.specs.declared.turns.ScriptTurn.TheVariants.{Again, Over}
use Rattle.steal_pool.specs.Seats.{IsIdle}

-- HOW FAR THE SCRIPT'S THREAD IS

-- What the first seat knows, and what was counted, where a run stands so.
pub record StandsAt (plan : Plan) (at : Standing) (k : Know) : Type 0 where
  pub idle : IsIdle k
  pub first : k.first ≡ true
  -- the segments before this one are run, and this one is opened where it is said so
  pub ended : k.ended ≡ at.segment
  pub opened : k.opened ≡ at.opened
  -- of the jobs that the segment waits for, the first ones were seen finished
  pub waited : (j : ℕ) → has_job (take at.waited (waits_in (segment_at plan at.segment))) j ≡ true → k.seen j ≡ true
  -- it is one of the plan, or all of them are run, and then none is open
  pub within : at.segment ≤ length plan.segments.items
  pub there : at.opened ≡ true → at.segment < length plan.segments.items
  -- the refused statements of the segments before it, and after all of them the traps of the run
  pub refused : at.refused ≡ refused_of plan at.segment
  pub traps : at.segment ≡ length plan.segments.items → IsReportOf (plan_traps plan) at.last

-- The place of the script's thread between two turns: its seat is the first one of the board of that name.
pub record IsStanding {S : Type 0} (home : S → List ℕ) (know : S → Know) (name : List ℕ) (plan : Plan) (at : Standing)
    (place : Place S) : Type 0 where
  pub held : S
  pub is : place.seat ≡ Some held
  pub at_home : home held ≡ name
  pub stands : StandsAt plan at (know held)

-- WHAT WAS SAID

-- Since a run began on that sink, behind the bytes that waited there, the lines of the segments before this one were
-- said, and no others.
abbrev pub HasSaid : {S : Type 0} → (S → Option (List ℕ)) → (S → ℕ) → Plan → S → List ℕ → S → List ℕ → Standing
    → Type 0
HasSaid taken faults plan first waited sink waits at =
    SaysTo taken faults first waited false sink waits at.failed (lines_of plan at.segment)

-- WHAT A TURN ANSWERS

abbrev pub is_over : ScriptTurn → Bool
is_over Again = false
is_over (Over end) = true

-- a fact of how the run ended, where it is over
abbrev pub IfOver : ScriptTurn → (RunEnd → Type 0) → Type 0
IfOver Again fact = Unit {0}
IfOver (Over end) fact = fact end
