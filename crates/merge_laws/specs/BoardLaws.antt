-- The laws of a board without locks.
use Rattle.std.specs.Prelude.{◌≡◌, ◌≢◌, ℕ, suc, ◌≤◌, true, ◌⊎◌, ℤ, Some}
use Rattle.merge_laws.specs.Graph.{PieceGraph, cells_before, IsWellOrdered}
use Rattle.merge_laws.specs.Core.{Lease, Core, IsReady}
use Rattle.merge_laws.specs.Steps.{HandsOver, MayBegin, Begins, Stores, Ends}
use Rattle.merge_laws.specs.Jobs.{JobGraph, IsJobGraph, HasParts, IsOf}
use Rattle.merge_laws.specs.Countdowns.{IsUnblocked}
use Rattle.merge_laws.specs.Rule.{Moment, core_at, IsRuled, IsOpening, IsOver}
use Rattle.merge_laws.specs.BoardSteps.{IsBegin, IsRelease, Step, Reaches}

-- A new board meets the rule.
abbrev pub NewBoardsAreRuled : Type 0
NewBoardsAreRuled = (g : PieceGraph) (h : JobGraph) (m : Moment) → HasParts h → IsOpening g h m → IsRuled g h m

-- What the countdowns say of a piece is what the merge asks of it: an unblocked piece has only ended predecessors.
abbrev pub UnblockedPiecesAreReady : Type 0
UnblockedPiecesAreReady = (g : PieceGraph) (h : JobGraph) (m : Moment) → IsOf h g → IsRuled g h m
    → (p : ℕ) → IsUnblocked h m.state m.rest p → IsReady g (core_at m).ended p

-- Each step keeps the rule.
abbrev pub StepsKeepTheRule : Type 0
StepsKeepTheRule = (g : PieceGraph) (h : JobGraph) → IsWellOrdered g → IsJobGraph h → IsOf h g
    → (m n : Moment) → IsRuled g h m → Step g h m n → IsRuled g h n

-- What a step does to the core: a piece begins that may, a word is stored, a piece ends, a lease is handed over, or
-- nothing changes.
pub data CoreStep (g : PieceGraph) (c d : Core) : Type 0 where
  begins : (k p : ℕ) → MayBegin g c p → Begins g c d k p → CoreStep g c d
  stores : (k w : ℕ) (v : ℤ) → Stores g c d k w v → CoreStep g c d
  ends : (k : ℕ) → Ends g c d k → CoreStep g c d
  hands_over : (k j : ℕ) → j ≢ k → HandsOver c.lease d.lease k j → ((p : ℕ) → d.ended p ≡ c.ended p) → d.cells ≡ c.cells
      → CoreStep g c d
  stays : ((p : ℕ) → d.ended p ≡ c.ended p) → d.lease ≡ c.lease → d.cells ≡ c.cells → CoreStep g c d

abbrev pub StepsAreCoreSteps : Type 0
StepsAreCoreSteps = (g : PieceGraph) (h : JobGraph) → IsWellOrdered g → IsJobGraph h → IsOf h g
    → (m n : Moment) → IsRuled g h m → Step g h m n → CoreStep g (core_at m) (core_at n)

-- A step leaves the state of each piece, or takes it to the next one: from closed to open, from open to begun, from
-- begun to ended.
abbrev pub StatesGoOneByOne : Type 0
StatesGoOneByOne = (g : PieceGraph) (h : JobGraph) → IsWellOrdered g → IsJobGraph h → IsOf h g
    → (m n : Moment) → IsRuled g h m → Step g h m n → (p : ℕ) → (n.state p ≡ m.state p) ⊎ (n.state p ≡ suc (m.state p))

-- Whatever a board reaches from its opening is ruled.
abbrev pub BoardsStayRuled : Type 0
BoardsStayRuled = (g : PieceGraph) (h : JobGraph) → IsWellOrdered g → IsJobGraph h → IsOf h g → HasParts h
    → (m n : Moment) → IsOpening g h m → Reaches g h m n → IsRuled g h n

-- No state falls. So each piece is opened, begun and ended once at most:
abbrev pub StatesNeverFall : Type 0
StatesNeverFall = (g : PieceGraph) (h : JobGraph) → IsWellOrdered g → IsJobGraph h → IsOf h g
    → (m n : Moment) → IsRuled g h m → Reaches g h m n → (p : ℕ) → m.state p ≤ n.state p

-- whoever began a piece, nobody begins it again.
abbrev pub PiecesBeginOnce : Type 0
PiecesBeginOnce = (g : PieceGraph) (h : JobGraph) → IsWellOrdered g → IsJobGraph h → IsOf h g → (m n o q : Moment)
    → IsRuled g h m
    → (j k : ℕ) (first : IsBegin g h m n j) → Reaches g h n o → (second : IsBegin g h o q k)
    → first.piece ≡ second.piece → ⊥

-- No countdown rises. So the rights to open a job's pieces come once:
abbrev pub CountdownsNeverRise : Type 0
CountdownsNeverRise = (g : PieceGraph) (h : JobGraph) (m n : Moment) → Reaches g h m n → (j : ℕ)
    → (n.rest j ≤ m.rest j) × (n.wait j ≤ m.wait j)

-- after the release that was the last of a job, nobody releases the job again.
abbrev pub RightsComeOnce : Type 0
RightsComeOnce = (g : PieceGraph) (h : JobGraph) (m n o q : Moment)
    → (j k : ℕ) (first : IsRelease h m n j) → first.falls.remaining ≡ 0 → Reaches g h n o → (second : IsRelease h o q k)
    → first.job ≡ second.job → ⊥

-- A leased word holds the lease's local cell, whatever others do.
abbrev pub LeasedWordsHoldLocalCells : Type 0
LeasedWordsHoldLocalCells = (g : PieceGraph) (h : JobGraph) (m : Moment) → IsRuled g h m
    → (k w : ℕ) (l : Lease) → m.lease k ≡ Some l → g.reads l.piece w ≡ true → m.cells w ≡ l.local w

-- Where the run is over, the cells are those after the run in script order.
abbrev pub ClosedBoardsAreInScriptOrder : Type 0
ClosedBoardsAreInScriptOrder = (g : PieceGraph) (h : JobGraph) → IsWellOrdered g → IsOf h g
    → (m : Moment) → IsRuled g h m → IsOver h m → (w : ℕ) → m.cells w ≡ cells_before g g.count w
