-- The laws of planning: each way of going on keeps the pieces in order, across the reuse of words, and pieces in order
-- make a well ordered plan.
use Rattle.std.specs.Prelude.{◌≡◌, ℕ, ◌<◌, ◌≤◌, true, false, List, [], ◌∷◌, ◌++◌, length, Some}
use Rattle.merge_laws.specs.Graph.{Cells, PieceGraph, LeadsTo, IsWellOrdered}
use Rattle.merge_laws.specs.Core.{Lease, Core, IsSound}
use Rattle.merge_laws.specs.Pieces.{Words, Piece, piece_at, graph_from, AreFramed}
use Rattle.merge_laws.specs.Ledger.{Ledger, IsLedger, AreInOrder, HasOlderParts}
use Rattle.merge_laws.specs.Planning.{DoesMore, IsPartOfNewest, IsApartFromJob, ArePartsOfNewest, BeginsSegment, GoesOn, with_words, MovesContainer}

-- A plan begins with a segment that touches nothing yet.
abbrev pub FirstSegmentsAreInOrder : Type 0
FirstSegmentsAreInOrder = (l : Ledger) (z : Piece) → IsLedger l → z.job ≡ 0
    → ((w : ℕ) → z.reads w ≡ false) → ((w : ℕ) → z.writes w ≡ false) → AreInOrder l (z ∷ [])

abbrev pub SegmentsKeepOrder : Type 0
SegmentsKeepOrder = (l : Ledger) (x y : Piece) (earlier : List Piece) → IsLedger l → AreInOrder l (x ∷ earlier)
    → DoesMore l x y → AreInOrder l (y ∷ earlier)

abbrev pub PartsKeepOrder : Type 0
PartsKeepOrder = (l : Ledger) (pieces : List Piece) (y : Piece) → IsLedger l → AreInOrder l pieces
    → HasOlderParts l pieces
    → IsPartOfNewest l y → IsApartFromJob l pieces y → AreInOrder l (y ∷ pieces)

abbrev pub JobsKeepOrder : Type 0
JobsKeepOrder = (l : Ledger) (pieces parts : List Piece) → IsLedger l → AreInOrder l pieces → HasOlderParts l pieces
    → ((p : ℕ) → p < length pieces → (piece_at pieces p).job < l.jobs) → ArePartsOfNewest l parts
    → AreInOrder l (parts ++ pieces)

abbrev pub NewSegmentsKeepOrder : Type 0
NewSegmentsKeepOrder = (l m : Ledger) (pieces : List Piece) (z : Piece) → AreInOrder l pieces → BeginsSegment l m z
    → AreInOrder m (z ∷ pieces)

abbrev pub LedgersKeepOrder : Type 0
LedgersKeepOrder = (l m : Ledger) (pieces : List Piece) → IsLedger l → AreInOrder l pieces → GoesOn l m
    → AreInOrder m pieces

abbrev pub MovesKeepOrder : Type 0
MovesKeepOrder = (l : Ledger) (x y : Piece) (earlier : List Piece) (c : ℕ) (new : Words) → IsLedger l
    → AreInOrder l (x ∷ earlier) → MovesContainer l x y c new
    → IsLedger (with_words l c new) × AreInOrder (with_words l c new) (y ∷ earlier)

-- Pieces in order, each of which reads and writes only its footprint, are a well ordered plan, whatever the first
-- cells.
abbrev pub PlansAreWellOrdered : Type 0
PlansAreWellOrdered = (l : Ledger) (first : Cells) (pieces : List Piece) → AreInOrder l pieces → AreFramed first pieces
    → IsWellOrdered (graph_from first pieces)

-- RECLAMATION. The segment m that makes a container writes all its words. So who touched a word for the container that
-- had it before leads to everyone who touches it for this one,
abbrev pub ReclaimedWordsAreOrdered : Type 0
ReclaimedWordsAreOrdered = (g : PieceGraph) → IsWellOrdered g → (p m q w : ℕ) → p ≤ m → m ≤ q → p < q → q < g.count
    → g.reads p w ≡ true → g.writes m w ≡ true → g.reads q w ≡ true → LeadsTo g p q

-- and no two leases hold the word, one for the earlier container and one for the later.
abbrev pub ReclaimedWordsAreHeldOnce : Type 0
ReclaimedWordsAreHeldOnce = (g : PieceGraph) (c : Core) → IsWellOrdered g → IsSound g c
    → (j k m w : ℕ) (l n : Lease) → c.lease j ≡ Some l → c.lease k ≡ Some n → l.piece ≤ m → m ≤ n.piece
    → l.piece < n.piece
    → g.reads l.piece w ≡ true → g.writes m w ≡ true → g.reads n.piece w ≡ true → ⊥
