-- A plan as the laws see it: a graph of pieces. A piece is named by its place in script order, from 0 on, so that
-- "earlier" is "less".
use Rattle.std.specs.Prelude.{◌≡◌, ℕ, zero, suc, ◌<◌, Bool, true, false, ◌⊎◌, ℤ}

-- the cells, by word
abbrev pub Cells : Type 0
Cells = ℕ → ℤ

pub record PieceGraph : Type 0 where
  -- the cells at first
  pub first : Cells
  -- how many pieces there are
  pub count : ℕ
  -- The footprint of a piece: the words that it may read, and those that it may write.
  pub reads : ℕ → ℕ → Bool
  pub writes : ℕ → ℕ → Bool
  -- The first piece is a predecessor of the second: it has to be ended before the second begins.
  pub precedes : ℕ → ℕ → Bool
  -- The piece is a segment: a stretch of the script's own statements between two of its jobs.
  pub is_segment : ℕ → Bool
  -- what the piece makes of the cells
  pub effect : ℕ → Cells → Cells

-- The run in script order: the cells before a piece. Before the piece `count` they are those after all pieces.
abbrev pub cells_before : PieceGraph → ℕ → Cells
cells_before g zero w = g.first w
cells_before g (suc p) w = g.effect p (cells_before g p) w

-- p leads to q: from predecessor to successor, in one step or more.
pub data LeadsTo (g : PieceGraph) : ℕ → ℕ → Type 0 where
  directly : {p q : ℕ} → g.precedes p q ≡ true → LeadsTo g p q
  further : {p q r : ℕ} → LeadsTo g p q → g.precedes q r ≡ true → LeadsTo g p r

-- Two footprints conflict on a word that one of the pieces writes, and the other reads or writes. Each piece may read
-- what it writes.
abbrev pub Conflicts : PieceGraph → ℕ → ℕ → ℕ → Type 0
Conflicts g p q w = ((g.writes p w ≡ true) × (g.reads q w ≡ true)) ⊎ ((g.reads p w ≡ true) × (g.writes q w ≡ true))

-- What the laws need of a plan.
pub record IsWellOrdered (g : PieceGraph) : Type 0 where
  -- a piece may read what it writes
  pub reads_written : (p w : ℕ) → p < g.count → g.writes p w ≡ true → g.reads p w ≡ true
  -- a predecessor is earlier in script order
  pub earlier : (p q : ℕ) → q < g.count → g.precedes p q ≡ true → p < q
  -- of two pieces with conflicting footprints the earlier leads to the later
  pub conflicts_lead : (p q w : ℕ) → p < q → q < g.count → Conflicts g p q w → LeadsTo g p q
  -- in the run in script order a piece changes only words that it writes
  pub writes_only : (p w : ℕ) → p < g.count → g.writes p w ≡ false → cells_before g (suc p) w ≡ cells_before g p w
  -- From any cells that are, on what it reads, those before it in script order, it makes on what it writes those after
  -- it. Of other cells nothing is asked.
  pub reads_only : (p : ℕ) (cells : Cells) → p < g.count → ((w : ℕ) → g.reads p w ≡ true → cells w ≡ cells_before g p w)
      → (w : ℕ) → g.writes p w ≡ true → g.effect p cells w ≡ cells_before g (suc p) w
