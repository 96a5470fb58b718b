-- What all who run a section share, for how many helpers it has places, and what a helper knows.
use Rattle.std.specs.Prelude.{◌≡◌, ℕ, suc, ◌-◌, ◌<◌, min, true, IsTrue, length, Some, Box}
use Rattle.std.specs.declared.alloc.Global.{Global}
use Rattle.std.specs.declared.sync.Arc.{Arc}
use Rattle.job_base.specs.declared.limits.TheConstants.{MOST_WORKERS}
use Rattle.frame_core.specs.declared.plan.Plan.{Plan}
use Rattle.frame_core.specs.Names.{job_pieces}
use Rattle.steal_pool.specs.declared.place.Place.{Place}
use Rattle.steal_pool.specs.Crews.{IsCrewOf}
use Rattle.steal_pool.specs.Seats.{IsReady}
use Rattle.word_board.specs.declared.seat.WordSeat.{WordSeat}
use Rattle.word_board.specs.Boards.{home_of, know_of, name_of, plan_of}
use Rattle.frame_stage.specs.declared.stage.Stage.{Stage}
use Rattle.frame_stage.specs.declared.hold.Hold.{Hold}
use Rattle.frame_stage.specs.declared.hold.Hold.TheVariants.{Alone, Shared}
use Rattle.frame_stage.specs.declared.helper.FrameHelper.{FrameHelper}

-- STAGES

-- The board and what is shared are made for the section's plan.
abbrev pub IsStage : Stage → Type 0
IsStage stage = IsCrewOf stage.section.plan (plan_of stage.board) stage.shared

-- the stage that a helper has a part of, and the one that a section holds
abbrev pub stage_of_part : Arc (Box Stage Global) Global → Stage
stage_of_part part = part.value.value

abbrev pub stage_of : Hold → Stage
stage_of (Alone stage) = stage.value
stage_of (Shared part) = stage_of_part part

-- a helper was given out
abbrev pub IsShared : Hold → Type 0
IsShared (Alone stage) = ⊥
IsShared (Shared part) = Unit {0}

-- For how many helpers a section has places: for as many as are wanted, but for no more than its plan has pieces of
-- jobs, nor than there may be workers beside the script's thread.
abbrev pub places_for : Plan → ℕ → ℕ
places_for plan helpers = min (min helpers (job_pieces plan)) (MOST_WORKERS - 1)

-- HELPERS

-- The seat saw each job of the plan finished: of none a piece is left to run.
abbrev pub HasSeenAll : Plan → WordSeat → Type 0
HasSeenAll plan seat = (j : ℕ) → j < length plan.jobs.items → (know_of seat).seen (suc j) ≡ true

-- the same of the seat of a place
pub record SeesAll (plan : Plan) (place : Place WordSeat) : Type 0 where
  pub held : WordSeat
  pub is : place.seat ≡ Some held
  pub all : HasSeenAll plan held

-- A helper has a place of its stage, between two of its turns. It says that its section is over where it saw so.
pub record IsHelper (helper : FrameHelper) : Type 0 where
  pub stage : IsStage (stage_of_part helper.stage)
  pub ready : IsReady home_of know_of (name_of (stage_of_part helper.stage).board) helper.place
  pub over : IsTrue helper.over → SeesAll (stage_of_part helper.stage).section.plan helper.place
