-- Events as the laws of runs name them.
use Rattle.std.specs.Prelude.{ℕ, List, map}
use Rattle.merge_laws.specs.Runs as runs
use Rattle.frame_core.specs.declared.event.Event.{Event}
use Rattle.frame_core.specs.declared.event.Event.TheVariants.{Take, Steal, Finish}
use Rattle.frame_core.specs.declared.plan.Plan.{Plan}
use Rattle.frame_core.specs.Pieces.{place_of, piece_numbered}

-- the place of a number; that of no piece is the place after all pieces
abbrev pub place_numbered : Plan → ℕ → ℕ
place_numbered plan p = place_of plan (piece_numbered plan p)

abbrev pub event_of : Plan → Event → runs.Event
event_of plan (Take seat piece) = runs.Event.take seat (place_numbered plan piece.0)
event_of plan (Steal seat victim piece) = runs.Event.steal seat victim (place_numbered plan piece.0)
event_of plan (Finish seat piece) = runs.Event.finish seat (place_numbered plan piece.0)

abbrev pub events_of : Plan → List Event → List runs.Event
events_of plan es = map (event_of plan) es
