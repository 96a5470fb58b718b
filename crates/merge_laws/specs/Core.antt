-- What is running: which pieces are ended, which are leased, and what the cells hold.
use Rattle.std.specs.Prelude.{◌≡◌, ◌≢◌, ℕ, ◌<◌, Bool, true, false, Option, Some}
use Rattle.merge_laws.specs.Graph.{Cells, PieceGraph}

-- A lease: a piece that was begun and isn't ended, and its local cells, which are what the piece sees.
pub record Lease : Type 0 where
  pub piece : ℕ
  pub local : Cells

-- The leases stand under keys of any kind: numbers of workers, of views or of pieces. No law counts them or compares
-- two keys but for being the same.
pub record Core : Type 0 where
  pub ended : ℕ → Bool
  pub lease : ℕ → Option Lease
  pub cells : Cells

-- all predecessors of the piece are ended
abbrev pub IsReady : PieceGraph → (ℕ → Bool) → ℕ → Type 0
IsReady g ended p = (q : ℕ) → g.precedes q p ≡ true → ended q ≡ true

-- no lease is of the piece
abbrev pub IsUnleased : Core → ℕ → Type 0
IsUnleased c p = (k : ℕ) (l : Lease) → c.lease k ≡ Some l → l.piece ≢ p

-- The common premise of the laws on pieces: every predecessor of an ended or a leased piece is ended, a leased piece is
-- one of the plan's and not ended, and none is leased twice.
pub record IsSound (g : PieceGraph) (c : Core) : Type 0 where
  pub ended_ready : (p : ℕ) → c.ended p ≡ true → IsReady g c.ended p
  pub lease_ready : (k : ℕ) (l : Lease) → c.lease k ≡ Some l → IsReady g c.ended l.piece
  pub lease_below : (k : ℕ) (l : Lease) → c.lease k ≡ Some l → l.piece < g.count
  pub lease_unended : (k : ℕ) (l : Lease) → c.lease k ≡ Some l → c.ended l.piece ≡ false
  pub lease_once : (j k : ℕ) (l m : Lease) → c.lease j ≡ Some l → c.lease k ≡ Some m → l.piece ≡ m.piece → j ≡ k
