-- The atomic steps of a board without locks. The participant k takes each; what a step doesn't name stays.
use Rattle.std.specs.Prelude.{◌≡◌, ◌≢◌, ℕ, suc, ◌<◌, true, ◌⊎◌, [], ◌∷◌, ◌++◌, ℤ, Some, None, slice_get, slice_set}
use Rattle.merge_laws.specs.Graph.{Cells, PieceGraph, cells_before}
use Rattle.merge_laws.specs.Core.{Lease}
use Rattle.merge_laws.specs.Steps.{ChangesLease, HandsOver, Stores}
use Rattle.merge_laws.specs.Jobs.{JobGraph}
use Rattle.merge_laws.specs.Claims.{Claims, IsFirst}
use Rattle.merge_laws.specs.Countdowns.{open_state, begun_state}
use Rattle.merge_laws.specs.CountSteps.{ChangesWord, Counts, Releases, EndsPart, EndsSegment, OpensPart, OpensSegment, Sees, IsFresh, Joins}
use Rattle.merge_laws.specs.Rule.{Moment, core_at}

-- The participant's claims change from v to w.
pub record ChangesClaims (m n : Moment) (k : ℕ) (v w : Claims) : Type 0 where
  pub was : slice_get m.claims k ≡ Some v
  pub now : n.claims ≡ slice_set m.claims k w

-- states, cells and leases stay
pub record SameCore (m n : Moment) : Type 0 where
  pub state : n.state ≡ m.state
  pub cells : n.cells ≡ m.cells
  pub lease : n.lease ≡ m.lease

-- the countdowns stay
pub record SameCounts (m n : Moment) : Type 0 where
  pub rest : n.rest ≡ m.rest
  pub wait : n.wait ≡ m.wait

-- STORE: a value goes into a word that the lease writes, and into its local cell.
pub record IsStore (g : PieceGraph) (m n : Moment) (k : ℕ) : Type 0 where
  pub word : ℕ
  pub value : ℤ
  pub stores : Stores g (core_at m) (core_at n) k word value
  pub state : n.state ≡ m.state
  pub counts : SameCounts m n
  pub claims : n.claims ≡ m.claims

-- BEGIN: the state of a piece goes from open to begun, and the participant, who had no lease, leases it.
pub record IsBegin (g : PieceGraph) (h : JobGraph) (m n : Moment) (k : ℕ) : Type 0 where
  pub piece : ℕ
  pub below : piece < g.count
  pub found : m.state piece ≡ open_state
  pub states : ChangesWord m.state n.state piece begun_state
  pub free : m.lease k ≡ None
  pub local : Cells
  pub local_is : (w : ℕ) → g.reads piece w ≡ true → local w ≡ cells_before g piece w
  pub leases : ChangesLease m.lease n.lease k (Some record { piece = piece; local = local })
  pub first : (i : ℕ) → i < h.segments → piece ≡ h.segment_at i
      → (v : Claims) × (slice_get m.claims k ≡ Some v) × IsFirst v
  pub cells : n.cells ≡ m.cells
  pub counts : SameCounts m n
  pub claims : n.claims ≡ m.claims

-- The lease of a piece goes. Its local cells are, on the words that the piece writes, those after it in script order.
pub record GivesUp (g : PieceGraph) (m n : Moment) (k p : ℕ) : Type 0 where
  pub lease : Lease
  pub held : m.lease k ≡ Some lease
  pub piece : lease.piece ≡ p
  pub is_done : (w : ℕ) → g.writes p w ≡ true → lease.local w ≡ cells_before g (suc p) w
  pub leases : ChangesLease m.lease n.lease k None
  pub cells : n.cells ≡ m.cells
  pub counts : SameCounts m n

-- END of a job's piece, and of a segment.
pub record IsPartEnd (g : PieceGraph) (h : JobGraph) (m n : Moment) (k : ℕ) : Type 0 where
  pub piece : ℕ
  pub job : ℕ
  pub was : Claims
  pub now : Claims
  pub gives_up : GivesUp g m n k piece
  pub claims : ChangesClaims m n k was now
  pub ends : EndsPart h m.state n.state was now piece job

pub record IsSegmentEnd (g : PieceGraph) (h : JobGraph) (m n : Moment) (k : ℕ) : Type 0 where
  pub segment : ℕ
  pub was : Claims
  pub now : Claims
  pub gives_up : GivesUp g m n k (h.segment_at segment)
  pub claims : ChangesClaims m n k was now
  pub ends : EndsSegment h m.state n.state was now segment

-- COUNT and RELEASE: a countdown falls by one.
pub record IsCount (h : JobGraph) (m n : Moment) (k : ℕ) : Type 0 where
  pub job : ℕ
  pub was : Claims
  pub now : Claims
  pub claims : ChangesClaims m n k was now
  pub falls : Counts h m.rest n.rest was now job
  pub core : SameCore m n
  pub wait : n.wait ≡ m.wait

pub record IsRelease (h : JobGraph) (m n : Moment) (k : ℕ) : Type 0 where
  pub job : ℕ
  pub was : Claims
  pub now : Claims
  pub claims : ChangesClaims m n k was now
  pub falls : Releases h m.wait n.wait was now job
  pub core : SameCore m n
  pub rest : n.rest ≡ m.rest

-- OPEN: a job's piece, by right, and the next segment.
pub record IsPartOpening (m n : Moment) (k : ℕ) : Type 0 where
  pub piece : ℕ
  pub was : Claims
  pub now : Claims
  pub claims : ChangesClaims m n k was now
  pub opens : OpensPart m.state n.state was now piece
  pub cells : n.cells ≡ m.cells
  pub lease : n.lease ≡ m.lease
  pub counts : SameCounts m n

pub record IsSegmentOpening (h : JobGraph) (m n : Moment) (k : ℕ) : Type 0 where
  pub was : Claims
  pub now : Claims
  pub claims : ChangesClaims m n k was now
  pub opens : OpensSegment h m.state n.state was now
  pub cells : n.cells ≡ m.cells
  pub lease : n.lease ≡ m.lease
  pub counts : SameCounts m n

-- FINISHED: a job is seen finished.
pub record IsLook (h : JobGraph) (m n : Moment) (k : ℕ) : Type 0 where
  pub job : ℕ
  pub was : Claims
  pub now : Claims
  pub claims : ChangesClaims m n k was now
  pub sees : Sees h m.rest was now job
  pub core : SameCore m n
  pub counts : SameCounts m n

-- SPLIT: a new participant, without a lease, takes the next place.
pub record IsSplit (m n : Moment) : Type 0 where
  pub new : Claims
  pub fresh : IsFresh new
  pub claims : n.claims ≡ m.claims ++ new ∷ []
  pub core : SameCore m n
  pub counts : SameCounts m n

-- JOIN: of two participants one remains, at the place j, with the lease and the claims of both. One of them had no
-- lease.
pub record IsJoin (m n : Moment) (k j : ℕ) : Type 0 where
  pub apart : j ≢ k
  pub u : Claims
  pub v : Claims
  pub w : Claims
  pub x : Claims
  pub at_j : slice_get m.claims j ≡ Some u
  pub at_k : slice_get m.claims k ≡ Some v
  pub joins : Joins u v w x
  pub claims : n.claims ≡ slice_set (slice_set m.claims j w) k x
  pub leases : ((m.lease k ≡ None) × (n.lease ≡ m.lease)) ⊎ HandsOver m.lease n.lease k j
  pub state : n.state ≡ m.state
  pub cells : n.cells ≡ m.cells
  pub counts : SameCounts m n

pub data Step (g : PieceGraph) (h : JobGraph) (m n : Moment) : Type 0 where
  stores : (k : ℕ) → IsStore g m n k → Step g h m n
  begins : (k : ℕ) → IsBegin g h m n k → Step g h m n
  ends_part : (k : ℕ) → IsPartEnd g h m n k → Step g h m n
  ends_segment : (k : ℕ) → IsSegmentEnd g h m n k → Step g h m n
  counts : (k : ℕ) → IsCount h m n k → Step g h m n
  releases : (k : ℕ) → IsRelease h m n k → Step g h m n
  opens_part : (k : ℕ) → IsPartOpening m n k → Step g h m n
  opens_segment : (k : ℕ) → IsSegmentOpening h m n k → Step g h m n
  sees : (k : ℕ) → IsLook h m n k → Step g h m n
  splits : IsSplit m n → Step g h m n
  joins : (k j : ℕ) → IsJoin m n k j → Step g h m n

-- n is reached from m by steps
pub data Reaches (g : PieceGraph) (h : JobGraph) (m : Moment) : Moment → Type 0 where
  here : Reaches g h m m
  onward : {n o : Moment} → Reaches g h m n → Step g h n o → Reaches g h m o
