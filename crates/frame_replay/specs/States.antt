-- When a state of the code stands for one of the laws of runs.
use Rattle.std.specs.Prelude.{◌≡◌, ◌≢◌, ℕ, ◌<◌, true, false, List, length, Option, None, Some, slice_index_or}
use Rattle.job_base.specs.Cells.{cells_of}
use Rattle.job_base.specs.declared.limits.TheConstants.{MOST_WORKERS}
use Rattle.merge_laws.specs.Numbers.{has}
use Rattle.merge_laws.specs.Graph.{Cells}
use Rattle.merge_laws.specs.Core.{Lease}
use Rattle.merge_laws.specs.Runs.{RunState, start, run, IsLegalRun}
use Rattle.frame_core.specs.declared.event.Event.{Event}
use Rattle.frame_core.specs.declared.event.CoreFault.{CoreFault}
use Rattle.frame_core.specs.declared.event.CoreFault.TheVariants.{Illegal, NoMemory}
use Rattle.frame_core.specs.declared.plan.Plan.{Plan}
use Rattle.frame_core.specs.Pieces.{piece_numbered}
use Rattle.frame_core.specs.Graphs.{is_predecessor, is_script, graph_of}
use Rattle.frame_core.specs.Know.{piece_count}
use Rattle.frame_core.specs.Events.{place_numbered, events_of}
use Rattle.frame_replay.specs.declared.state.CoreState.{CoreState}
use Rattle.frame_replay.specs.declared.state.CoreLease.{CoreLease}

-- a seat has no lease, or one of the same piece with the same local cells
abbrev pub LeaseIs : Plan → Option CoreLease → Option Lease → Type 0
LeaseIs plan None x = x ≡ None
LeaseIs plan (Some l) x = (l.piece < piece_count plan) × (length l.local ≡ plan.words)
    × (x ≡ Some record { piece = place_numbered plan l.piece; local = cells_of l.local })

-- the cells by words
abbrev pub cells_in : CoreState → Cells
cells_in c = cells_of c.cells.items

pub record IsState (plan : Plan) (c : CoreState) (s : RunState) : Type 0 where
  pub pieces : length c.ended.items ≡ piece_count plan
  pub seats : length c.leases.items ≡ MOST_WORKERS
  pub words : length c.cells.items ≡ plan.words
  pub ended : (p : ℕ) → p < piece_count plan → slice_index_or c.ended.items p false ≡ has
      (place_numbered plan p) s.ended
  pub lease : (k : ℕ) → LeaseIs plan (slice_index_or c.leases.items k None) (s.lease k)
  pub cells : s.cells ≡ cells_of c.cells.items

-- each of the events is legal where it stands
abbrev pub AreLegal : Plan → List Event → Type 0
AreLegal plan es = IsLegalRun (graph_of plan) (start (graph_of plan)) (events_of plan es)

-- the state of the laws after them, from the plan's first cells on
abbrev pub state_after : Plan → List Event → RunState
state_after plan es = run (graph_of plan) (start (graph_of plan)) (events_of plan es)

-- a legal list of events leads to the state
abbrev pub IsReachedBy : Plan → List Event → CoreState → Type 0
IsReachedBy plan es c = AreLegal plan es × IsState plan c (state_after plan es)

-- Illegal comes where the event isn't legal, want of memory where it is.
abbrev pub Refuses : CoreFault → Type 0 → Type 0
Refuses Illegal IsLegal = IsLegal → ⊥
Refuses NoMemory IsLegal = IsLegal

-- for a list of events nothing is said of want of memory
abbrev pub RefusesRun : CoreFault → Type 0 → Type 0
RefusesRun Illegal IsLegal = IsLegal → ⊥
RefusesRun NoMemory IsLegal = Unit {0}

-- What the code asks of a piece that a seat is to take, by numbers.
pub record MayTakeNow (plan : Plan) (c : CoreState) (seat p : ℕ) : Type 0 where
  pub seat_below : seat < MOST_WORKERS
  pub below : p < piece_count plan
  pub unended : slice_index_or c.ended.items p false ≡ false
  pub free : slice_index_or c.leases.items seat None ≡ None
  pub first : is_script (Some (piece_numbered plan p)) ≡ true → seat ≡ 0
  pub unleased : (k : ℕ) (l : CoreLease) → slice_index_or c.leases.items k None ≡ Some l → l.piece ≢ p
  pub ready : (n : ℕ) → n < piece_count plan → is_predecessor plan (piece_numbered plan n)
      (piece_numbered plan p) ≡ true → slice_index_or c.ended.items n false ≡ true

-- the seat leases the piece
abbrev pub LeasesNow : CoreState → ℕ → ℕ → Type 0
LeasesNow c seat p = (l : CoreLease) × (slice_index_or c.leases.items seat None ≡ Some l) × (l.piece ≡ p)

-- the sizes that belong to a plan
pub record IsSizedFor (plan : Plan) (c : CoreState) : Type 0 where
  pub pieces : length c.ended.items ≡ piece_count plan
  pub seats : length c.leases.items ≡ MOST_WORKERS
  pub words : length c.cells.items ≡ plan.words
  pub leases : (k : ℕ) (l : CoreLease) → slice_index_or c.leases.items k None ≡ Some l
      → (l.piece < piece_count plan) × (length l.local ≡ plan.words)
