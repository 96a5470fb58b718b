-- The rule of a board without locks: what its words and what the participants hold say together between any two atomic
-- steps.
use Rattle.std.specs.Prelude.{◌≡◌, ◌≢◌, ℕ, ◌+◌, ◌<◌, false, List, [], ◌∷◌, nat_eq, Option, Some, None, slice_get}
use Rattle.merge_laws.specs.Numbers.{tally}
use Rattle.merge_laws.specs.Graph.{Cells, PieceGraph}
use Rattle.merge_laws.specs.Core.{Lease, Core, IsReady}
use Rattle.merge_laws.specs.Merge.{IsMerged, IsInPlace}
use Rattle.merge_laws.specs.Jobs.{JobGraph}
use Rattle.merge_laws.specs.Claims.{Claims, IsFirst}
use Rattle.merge_laws.specs.Countdowns.{closed_state, begun_state, ended_state, AreExact}

-- A moment between two steps: the state of each piece, the countdowns of each job, the cells, and what each participant
-- holds: its lease, by its place in the list of claims, and its claims.
pub record Moment : Type 0 where
  pub state : ℕ → ℕ
  pub rest : ℕ → ℕ
  pub wait : ℕ → ℕ
  pub cells : Cells
  pub lease : ℕ → Option Lease
  pub claims : List Claims

-- the core that a moment shows: the ended pieces are those whose state says so
abbrev pub core_at : Moment → Core
core_at m = record { ended = λ p. nat_eq (m.state p) ended_state; lease = m.lease; cells = m.cells }

-- States, leases and cells agree.
pub record AreHeld (g : PieceGraph) (m : Moment) : Type 0 where
  -- A piece is begun exactly where one participant leases it, and no two do.
  pub begun : (k : ℕ) (l : Lease) → m.lease k ≡ Some l → (m.state l.piece ≡ begun_state) × (l.piece < g.count)
  pub leased : (p : ℕ) → m.state p ≡ begun_state → (k : ℕ) × (l : Lease) × (m.lease k ≡ Some l) × (l.piece ≡ p)
  pub once : (j k : ℕ) (l n : Lease) → m.lease j ≡ Some l → m.lease k ≡ Some n → l.piece ≡ n.piece → j ≡ k
  -- a piece that isn't closed has only ended predecessors
  pub ready : (p : ℕ) → m.state p ≢ closed_state → IsReady g (core_at m).ended p
  -- both sentences of the merge
  pub merged : IsMerged g (core_at m)
  pub in_place : IsInPlace g (core_at m)

pub record IsRuled (g : PieceGraph) (h : JobGraph) (m : Moment) : Type 0 where
  pub held : AreHeld g m
  pub exact : AreExact h m.state m.rest m.wait m.claims
  -- only the first participant leases segments
  pub segment_leases : (k i : ℕ) (l : Lease) → m.lease k ≡ Some l → i < h.segments → l.piece ≡ h.segment_at i
      → (v : Claims) × (slice_get m.claims k ≡ Some v) × IsFirst v

-- what the first participant holds at first: nothing
abbrev pub first_claims : Claims
first_claims = record {
  spent = false;
  number = 0;
  owed = None;
  duties = [];
  rights = [];
  seen = [];
  ended = 0;
  opened = false;
}

-- A new board: all pieces are closed and the cells are the first, each job has all its pieces left, and waits for its
-- segment and its dependencies.
pub record IsOpening (g : PieceGraph) (h : JobGraph) (m : Moment) : Type 0 where
  pub states : (p : ℕ) → m.state p ≡ closed_state
  pub rests : (j : ℕ) → j < h.jobs → m.rest j ≡ tally (λ p. h.is_part p j) h.pieces
  pub waits : (j : ℕ) → j < h.jobs → m.wait j ≡ 1 + tally (λ i. h.is_dependency i j) h.jobs
  pub cells : (w : ℕ) → m.cells w ≡ g.first w
  pub leases : (k : ℕ) → m.lease k ≡ None
  pub claims : m.claims ≡ first_claims ∷ []

-- The run is over: the first participant has ended all segments.
pub record IsOver (h : JobGraph) (m : Moment) : Type 0 where
  pub place : ℕ
  pub first : Claims
  pub there : slice_get m.claims place ≡ Some first
  pub is_first : IsFirst first
  pub all : first.ended ≡ h.segments
