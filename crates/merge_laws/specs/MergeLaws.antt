-- The laws of the merge. Each speaks of a well ordered plan and a consistent core.
use Rattle.std.specs.Prelude.{◌≡◌, ◌≢◌, ℕ, ◌<◌, true, false, ◌⊎◌, ℤ, Some, None}
use Rattle.merge_laws.specs.Graph.{PieceGraph, IsWellOrdered}
use Rattle.merge_laws.specs.Core.{Lease, Core, IsSound}
use Rattle.merge_laws.specs.Merge.{IsInPlace, IsConsistent}
use Rattle.merge_laws.specs.Steps.{HandsOver, MayBegin, IsClear, Begins, Stores, Ends}

-- No race: of two leases under different keys, none reads or writes a word that the other writes.
abbrev pub LeasesAreApart : Type 0
LeasesAreApart = (g : PieceGraph) (c : Core) → IsWellOrdered g → IsSound g c
    → (j k w : ℕ) (l m : Lease) → c.lease j ≡ Some l → c.lease k ≡ Some m → j ≢ k → g.writes l.piece w ≡ true
    → g.reads m.piece w ≡ false

-- What may begin is clear of all that runs.
abbrev pub WhatMayBeginIsClear : Type 0
WhatMayBeginIsClear = (g : PieceGraph) (c : Core) → IsWellOrdered g → IsConsistent g c → (p : ℕ) → MayBegin g c p
    → IsClear g c p

-- A begin keeps the merge.
abbrev pub BeginsKeepTheMerge : Type 0
BeginsKeepTheMerge = (g : PieceGraph) (c d : Core) → IsWellOrdered g → IsConsistent g c
    → (k p : ℕ) → MayBegin g c p → Begins g c d k p → IsConsistent g d × (IsInPlace g c → IsInPlace g d)

-- A store in place keeps the merge.
abbrev pub StoresKeepTheMerge : Type 0
StoresKeepTheMerge = (g : PieceGraph) (c d : Core) → IsWellOrdered g → IsConsistent g c → IsInPlace g c
    → (k w : ℕ) (v : ℤ) → Stores g c d k w v → IsConsistent g d × IsInPlace g d

-- An end keeps the merge.
abbrev pub EndsKeepTheMerge : Type 0
EndsKeepTheMerge = (g : PieceGraph) (c d : Core) → IsWellOrdered g → IsConsistent g c
    → (k : ℕ) → Ends g c d k → IsConsistent g d × (IsInPlace g c → IsInPlace g d)

-- Whose key a lease has doesn't matter.
abbrev pub HandsKeepTheMerge : Type 0
HandsKeepTheMerge = (g : PieceGraph) (c d : Core) → IsConsistent g c → (k j : ℕ) → j ≢ k → HandsOver c.lease d.lease k j
    → ((p : ℕ) → d.ended p ≡ c.ended p) → ((w : ℕ) → d.cells w ≡ c.cells w)
    → IsConsistent g d × (IsInPlace g c → IsInPlace g d)

-- A plan can't get stuck: where nothing is leased, all pieces are ended or one may begin.
abbrev pub APieceMayBegin : Type 0
APieceMayBegin = (g : PieceGraph) (c : Core) → IsWellOrdered g → ((k : ℕ) → c.lease k ≡ None)
    → ((p : ℕ) → p < g.count → c.ended p ≡ true) ⊎ ((p : ℕ) × MayBegin g c p)
