-- The merge: what the cells hold while pieces run, in two sentences.
use Rattle.std.specs.Prelude.{◌≡◌, ℕ, zero, suc, Bool, true, false, ◌&&◌, if◌then◌else◌, Some}
use Rattle.merge_laws.specs.Graph.{Cells, PieceGraph, cells_before}
use Rattle.merge_laws.specs.Core.{Lease, Core, IsSound}

-- one more than the latest of the first n pieces that is ended and may write the word, or 0 where there is none
abbrev pub after_latest : PieceGraph → (ℕ → Bool) → ℕ → ℕ → ℕ
after_latest g ended w zero = zero
after_latest g ended w (suc p) = if g.writes p w && ended p then suc p else after_latest g ended w p

-- The script-order value of each word after the latest ended piece that may write it. It is the first cell where there
-- is none.
abbrev pub merged_cells : PieceGraph → (ℕ → Bool) → Cells
merged_cells g ended w = cells_before g (after_latest g ended w g.count) w

-- THE FIRST SENTENCE: a word that no lease may write holds the script-order value after the latest ended piece that may
-- write it.
abbrev pub IsMerged : PieceGraph → Core → Type 0
IsMerged g c = (w : ℕ) → ((k : ℕ) (l : Lease) → c.lease k ≡ Some l → g.writes l.piece w ≡ false)
    → c.cells w ≡ merged_cells g c.ended w

-- THE SECOND SENTENCE, said where cells are used in place: a word that a lease reads or writes holds the lease's local
-- cell. Where leases are copied out it isn't said.
abbrev pub IsInPlace : PieceGraph → Core → Type 0
IsInPlace g c = (k : ℕ) (l : Lease) (w : ℕ) → c.lease k ≡ Some l → g.reads l.piece w ≡ true → c.cells w ≡ l.local w

-- What every law of the merge keeps.
pub record IsConsistent (g : PieceGraph) (c : Core) : Type 0 where
  pub sound : IsSound g c
  pub merged : IsMerged g c
