-- The three steps on a core: a piece begins, a word is stored, a piece ends. Each relates the core before with the core
-- after, word by word and key by key, so that lists, functions and words of memory can all be cores.
use Rattle.std.specs.Prelude.{◌≡◌, ◌≢◌, ℕ, suc, ◌<◌, true, false, ℤ, Option, Some, None}
use Rattle.merge_laws.specs.Graph.{Cells, PieceGraph, cells_before}
use Rattle.merge_laws.specs.Core.{Lease, Core, IsReady, IsUnleased}

-- the leases after are those before, but for the key k, which has x
pub record ChangesLease (before after : ℕ → Option Lease) (k : ℕ) (x : Option Lease) : Type 0 where
  pub here : after k ≡ x
  pub there : (j : ℕ) → j ≢ k → after j ≡ before j

-- The lease of the key k, where it has one, goes to the key j, which has none.
pub record HandsOver (before after : ℕ → Option Lease) (k j : ℕ) : Type 0 where
  pub free : before j ≡ None
  pub here : after j ≡ before k
  pub gone : after k ≡ None
  pub there : (i : ℕ) → i ≢ j → i ≢ k → after i ≡ before i

-- the piece may begin: it is one of the plan's, neither ended nor leased, and all its predecessors are ended
pub record MayBegin (g : PieceGraph) (c : Core) (p : ℕ) : Type 0 where
  pub below : p < g.count
  pub unended : c.ended p ≡ false
  pub unleased : IsUnleased c p
  pub ready : IsReady g c.ended p

-- Nothing that runs touches what the piece touches: no lease writes a word that it reads or writes, none reads a word
-- that it writes, and on its footprint the cells are those before it in script order.
pub record IsClear (g : PieceGraph) (c : Core) (p : ℕ) : Type 0 where
  pub unwritten : (k : ℕ) (l : Lease) (w : ℕ) → c.lease k ≡ Some l → g.reads p w ≡ true → g.writes l.piece w ≡ false
  pub unread : (k : ℕ) (l : Lease) (w : ℕ) → c.lease k ≡ Some l → g.writes p w ≡ true → g.reads l.piece w ≡ false
  pub cells : (w : ℕ) → g.reads p w ≡ true → c.cells w ≡ cells_before g p w

-- Piece p begins under the key k. Its local cells are, on its footprint, those before it in script order.
pub record Begins (g : PieceGraph) (c d : Core) (k p : ℕ) : Type 0 where
  pub free : c.lease k ≡ None
  pub local : Cells
  pub local_is : (w : ℕ) → g.reads p w ≡ true → local w ≡ cells_before g p w
  pub leases : ChangesLease c.lease d.lease k (Some record { piece = p; local = local })
  pub ended : (q : ℕ) → d.ended q ≡ c.ended q
  pub cells : (w : ℕ) → d.cells w ≡ c.cells w

-- The value v is stored in the word w, which the lease of the key k writes, and in the local cell of w.
pub record Stores (g : PieceGraph) (c d : Core) (k w : ℕ) (v : ℤ) : Type 0 where
  pub was : Lease
  pub lease : c.lease k ≡ Some was
  pub written : g.writes was.piece w ≡ true
  pub now : Lease
  pub leases : ChangesLease c.lease d.lease k (Some now)
  pub piece : now.piece ≡ was.piece
  pub local_here : now.local w ≡ v
  pub local_there : (u : ℕ) → u ≢ w → now.local u ≡ was.local u
  pub here : d.cells w ≡ v
  pub there : (u : ℕ) → u ≢ w → d.cells u ≡ c.cells u
  pub ended : (q : ℕ) → d.ended q ≡ c.ended q

-- The piece that the key k leases ends. The words that it writes take its local values at the end, which are those
-- after it in script order. Where cells are used in place, these are the lease's; where leases are copied out, what the
-- piece makes of the lease's.
pub record Ends (g : PieceGraph) (c d : Core) (k : ℕ) : Type 0 where
  pub was : Lease
  pub lease : c.lease k ≡ Some was
  pub local : Cells
  pub local_is : (w : ℕ) → g.writes was.piece w ≡ true → local w ≡ cells_before g (suc was.piece) w
  pub leases : ChangesLease c.lease d.lease k None
  pub ended_here : d.ended was.piece ≡ true
  pub ended_there : (q : ℕ) → q ≢ was.piece → d.ended q ≡ c.ended q
  pub written : (w : ℕ) → g.writes was.piece w ≡ true → d.cells w ≡ local w
  pub others : (w : ℕ) → g.writes was.piece w ≡ false → d.cells w ≡ c.cells w
