-- Runs of a plan as lists of events: a worker takes a piece or steals one, and finishes it. Here leases are copied out,
-- and the key of a lease is the number of the worker's seat.
use Rattle.std.specs.Prelude.{◌≡◌, ℕ, ◌<◌, true, ◌⊎◌, List, [], ◌∷◌, nat_eq, if◌then◌else◌, Option, Some, None}
use Rattle.job_base.specs.declared.limits.TheConstants.{MOST_WORKERS}
use Rattle.merge_laws.specs.Numbers.{has, IsOnce}
use Rattle.merge_laws.specs.Graph.{Cells, PieceGraph, cells_before, IsWellOrdered}
use Rattle.merge_laws.specs.Core.{Lease, Core}
use Rattle.merge_laws.specs.Merge.{IsConsistent}
use Rattle.merge_laws.specs.Steps.{MayBegin}

-- The state of a run: the ended pieces, the last one first, the lease of each seat, and the cells.
pub record RunState : Type 0 where
  pub ended : List ℕ
  pub lease : ℕ → Option Lease
  pub cells : Cells

-- nothing is ended or leased, and the cells are the first
abbrev pub start : PieceGraph → RunState
start g = record { ended = []; lease = λ k. None; cells = g.first }

abbrev pub core_of : RunState → Core
core_of s = record { ended = λ p. has p s.ended; lease = s.lease; cells = s.cells }

-- Taking and stealing differ in name alone: whose queue a piece comes from is no part of the state.
pub data Event : Type 0 where
  take : (seat piece : ℕ) → Event
  steal : (seat victim piece : ℕ) → Event
  finish : (seat piece : ℕ) → Event

-- A free seat below `MOST_WORKERS` may take a piece that may begin. Segments are for the seat 0.
pub record MayTake (g : PieceGraph) (s : RunState) (seat piece : ℕ) : Type 0 where
  pub may_begin : MayBegin g (core_of s) piece
  pub seat_below : seat < MOST_WORKERS
  pub seat_free : s.lease seat ≡ None
  pub segment_first : g.is_segment piece ≡ true → seat ≡ 0

-- A seat may finish the piece that it leases.
pub record MayFinish (s : RunState) (seat piece : ℕ) : Type 0 where
  pub local : Cells
  pub lease : s.lease seat ≡ Some record { piece = piece; local = local }

abbrev pub IsLegal : PieceGraph → RunState → Event → Type 0
IsLegal g s (take seat piece) = MayTake g s seat piece
IsLegal g s (steal seat victim piece) = MayTake g s seat piece
IsLegal g s (finish seat piece) = MayFinish s seat piece

abbrev pub with_lease : (ℕ → Option Lease) → ℕ → Option Lease → ℕ → Option Lease
with_lease leases k x j = if nat_eq j k then x else leases j

-- the seat leases the piece, and copies all cells
abbrev pub taken : RunState → ℕ → ℕ → RunState
taken s seat piece = record s { lease = with_lease s.lease seat (Some record { piece = piece; local = s.cells }) }

-- the cells where the words that the piece writes take what it makes of its local cells
abbrev pub written_back : PieceGraph → Cells → Lease → Cells
written_back g cells l w = if g.writes l.piece w then g.effect l.piece l.local w else cells w

-- the seat's lease, where it has one, is gone, its piece is ended, and its words are written back
abbrev pub finished : PieceGraph → RunState → ℕ → Option Lease → RunState
finished g s seat None = s
finished g s seat (Some l) = record {
  ended = l.piece ∷ s.ended;
  lease = with_lease s.lease seat None;
  cells = written_back g s.cells l;
}

abbrev pub after : PieceGraph → RunState → Event → RunState
after g s (take seat piece) = taken s seat piece
after g s (steal seat victim piece) = taken s seat piece
after g s (finish seat piece) = finished g s seat (s.lease seat)

abbrev pub run : PieceGraph → RunState → List Event → RunState
run g s [] = s
run g s (e ∷ es) = run g (after g s e) es

-- each event is legal where it stands
abbrev pub IsLegalRun : PieceGraph → RunState → List Event → Type 0
IsLegalRun g s [] = Unit {0}
IsLegalRun g s (e ∷ es) = IsLegal g s e × IsLegalRun g (after g s e) es

abbrev pub IsEnded : PieceGraph → RunState → Type 0
IsEnded g s = (p : ℕ) → p < g.count → has p s.ended ≡ true

-- What holds in each state of a legal run.
pub record IsKept (g : PieceGraph) (s : RunState) : Type 0 where
  pub consistent : IsConsistent g (core_of s)
  -- the local cells of a lease are, on its footprint, those before its piece in script order
  pub local : (k : ℕ) (l : Lease) (w : ℕ) → s.lease k ≡ Some l → g.reads l.piece w ≡ true
      → l.local w ≡ cells_before g l.piece w
  -- each piece is ended once at most
  pub once : IsOnce s.ended

-- THE RUN THEOREM: in each state that a legal list of events reaches, the merge holds.
abbrev pub RunsKeepTheMerge : Type 0
RunsKeepTheMerge = (g : PieceGraph) → IsWellOrdered g → (es : List Event) → IsLegalRun g (start g) es
    → IsKept g (run g (start g) es)

-- Where a run has ended, the cells are those after the run in script order.
abbrev pub EndedRunsAreInScriptOrder : Type 0
EndedRunsAreInScriptOrder = (g : PieceGraph) → IsWellOrdered g → (es : List Event) → IsLegalRun g (start g) es
    → IsEnded g (run g (start g) es)
    → (w : ℕ) → (run g (start g) es).cells w ≡ cells_before g g.count w

-- So the pieces commute: two runs that ended have the same cells, whatever the order and whoever ran them.
abbrev pub EndedRunsAgree : Type 0
EndedRunsAgree = (g : PieceGraph) → IsWellOrdered g → (es fs : List Event) → IsLegalRun g (start g) es
    → IsLegalRun g (start g) fs
    → IsEnded g (run g (start g) es) → IsEnded g (run g (start g) fs) → (w : ℕ)
    → (run g (start g) es).cells w ≡ (run g (start g) fs).cells w

-- And a run can always go on until it has ended.
abbrev pub RunsCanGoOn : Type 0
RunsCanGoOn = (g : PieceGraph) → IsWellOrdered g → (es : List Event) → IsLegalRun g (start g) es
    → IsEnded g (run g (start g) es) ⊎ ((e : Event) × IsLegal g (run g (start g) es) e)
