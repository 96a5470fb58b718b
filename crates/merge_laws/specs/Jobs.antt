-- The jobs and segments of a plan, which the countdowns count. Jobs and segments are numbered from 0, pieces by their
-- place in script order.
use Rattle.std.specs.Prelude.{◌≡◌, ℕ, suc, ◌<◌, Bool, true, false, ◌⊎◌}
use Rattle.merge_laws.specs.Graph.{PieceGraph}

pub record JobGraph : Type 0 where
  -- how many there are
  pub pieces : ℕ
  pub jobs : ℕ
  pub segments : ℕ
  -- the piece is one of the job's
  pub is_part : ℕ → ℕ → Bool
  -- the piece that is the segment
  pub segment_at : ℕ → ℕ
  -- the segment that starts the job
  pub starter : ℕ → ℕ
  -- the first job is a dependency of the second
  pub is_dependency : ℕ → ℕ → Bool
  -- the segment waits for the job
  pub waits : ℕ → ℕ → Bool

-- What the countdowns need of it.
pub record IsJobGraph (h : JobGraph) : Type 0 where
  -- a piece is of one job at most, and a segment of none
  pub one_job : (p i j : ℕ) → h.is_part p i ≡ true → h.is_part p j ≡ true → i ≡ j
  pub no_job : (k j : ℕ) → k < h.segments → h.is_part (h.segment_at k) j ≡ false
  -- two segments are two pieces
  pub one_segment : (i k : ℕ) → i < h.segments → k < h.segments → h.segment_at i ≡ h.segment_at k → i ≡ k
  pub starter_below : (j : ℕ) → j < h.jobs → h.starter j < h.segments
  pub dependency_below : (i j : ℕ) → h.is_dependency i j ≡ true → i < h.jobs

-- each job has a piece
abbrev pub HasParts : JobGraph → Type 0
HasParts h = (j : ℕ) → j < h.jobs → (p : ℕ) × (p < h.pieces) × (h.is_part p j ≡ true)

-- The predecessors q of a piece p. Those of a job's piece are the segment that starts the job, and all pieces of its
-- dependencies. Those of a segment are the segment before it, and all pieces of the jobs that it waits for.
pub data IsPredecessor (h : JobGraph) (q p : ℕ) : Type 0 where
  starts : (j : ℕ) → j < h.jobs → h.is_part p j ≡ true → q ≡ h.segment_at (h.starter j) → IsPredecessor h q p
  feeds : (i j : ℕ) → i < h.jobs → j < h.jobs → h.is_part p j ≡ true → h.is_dependency i j ≡ true
      → q < h.pieces → h.is_part q i ≡ true → IsPredecessor h q p
  comes_before : (k : ℕ) → suc k < h.segments → p ≡ h.segment_at (suc k) → q ≡ h.segment_at k → IsPredecessor h q p
  is_awaited : (i k : ℕ) → i < h.jobs → k < h.segments → p ≡ h.segment_at k → h.waits k i ≡ true
      → q < h.pieces → h.is_part q i ≡ true → IsPredecessor h q p

-- The graph of jobs is one of the graph of pieces.
pub record IsOf (h : JobGraph) (g : PieceGraph) : Type 0 where
  pub count : g.count ≡ h.pieces
  -- Predecessors are of the four kinds alone. A graph may have fewer; that the graph of a plan has them all is a clause
  -- of the plan.
  pub predecessor : (q p : ℕ) → g.precedes q p ≡ true → IsPredecessor h q p
  -- each piece is a segment or a job's
  pub each : (p : ℕ) → p < h.pieces → ((k : ℕ) × (k < h.segments) × (p ≡ h.segment_at k))
      ⊎ ((j : ℕ) × (j < h.jobs) × (h.is_part p j ≡ true))
  -- the last segment waits for every job
  pub last : ℕ
  pub last_is : suc last ≡ h.segments
  pub last_waits : (j : ℕ) → j < h.jobs → h.waits last j ≡ true
