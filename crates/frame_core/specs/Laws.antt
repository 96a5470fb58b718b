-- The laws of well ordered plans.
use Rattle.std.specs.Prelude.{◌≡◌, ◌≢◌, ℕ, ℤ, pos, suc, ◌+◌, ◌<◌, ◌≤◌, ◌⊎◌, ◌↔◌, true, List, [], ◌∷◌, length, Some, slice_get}
use Rattle.job_base.specs.declared.Trap.{Trap}
use Rattle.job_base.specs.declared.Trap.TheVariants.{Overflow, ZeroDivisor, Range, OwnIndex, Full, MissingKey, PresentKey, Written, Budget}
use Rattle.job_base.specs.declared.limits.TheConstants.{MOST_INDEXES}
use Rattle.frame_ast.specs.Contents.{Contents}
use Rattle.kernel_exec.specs.declared.binds.Bind.{Bind}
use Rattle.kernel_exec.specs.Layout.{Holds}
use Rattle.merge_laws.specs.Graph.{Cells, IsWellOrdered}
use Rattle.merge_laws.specs.Jobs.{IsJobGraph, HasParts, IsOf, IsPredecessor}
use Rattle.frame_core.specs.declared.piece.Piece.{Piece}
use Rattle.frame_core.specs.declared.plan.Plan.{Plan}
use Rattle.frame_core.specs.declared.piece.Piece.TheVariants.{OfScript, OfJob}
use Rattle.frame_core.specs.declared.plan.JobPlan.{JobPlan}
use Rattle.frame_core.specs.Names.{job_at, pieces_of, job_pieces}
use Rattle.frame_core.specs.Pieces.{script_order, place_of, number_of, piece_numbered, own_word, IsPieceOf}
use Rattle.frame_core.specs.Touches.{reads_in, writes_in}
use Rattle.frame_core.specs.Effects.{touches, trap_number, note_of, part_run}
use Rattle.frame_core.specs.Graphs.{graph_of, jobs_of, before_piece, cells_after}
use Rattle.frame_core.specs.Know.{piece_count, reads}
use Rattle.frame_core.specs.Reading.{contents_in}
use Rattle.frame_core.specs.Output.{first_traps, plan_traps}
use Rattle.frame_core.specs.Ordered.{AreJobsFitting, IsWellOrderedPlan}

-- What the laws of the merge and of boards ask of a plan holds of each well ordered one.
pub record MeetsTheLaws (plan : Plan) : Type 0 where
  pub ordered : IsWellOrdered (graph_of plan)
  pub jobs : IsJobGraph (jobs_of plan)
  pub of : IsOf (jobs_of plan) (graph_of plan)
  pub parts : HasParts (jobs_of plan)

abbrev pub PlansMeetTheLaws : Type 0
PlansMeetTheLaws = (plan : Plan) → IsWellOrderedPlan plan → MeetsTheLaws plan

-- The predecessors of a piece are exactly those of the four kinds: the segment that starts its job, the pieces of its
-- job's dependencies; and of a segment the one before it, and the pieces of the jobs that it waits for.
abbrev pub PredecessorsAreOfFourKinds : Type 0
PredecessorsAreOfFourKinds = (plan : Plan) → IsWellOrderedPlan plan → (q p : ℕ)
    → ((graph_of plan).precedes q p ≡ true) ↔ IsPredecessor (jobs_of plan) q p

-- Numbers, kinds and places are three names for the same pieces.
pub record IsNamed (plan : Plan) : Type 0 where
  -- a number below the number of pieces names one of them, whose number it is
  pub numbered : (p : ℕ) → p < piece_count plan
      → IsPieceOf plan (piece_numbered plan p) × (number_of plan (piece_numbered plan p) ≡ p)
  pub number : (x : Piece) → IsPieceOf plan x
      → (number_of plan x < piece_count plan) × (piece_numbered plan (number_of plan x) ≡ x)
  -- those of jobs come first, and then the segments
  pub of_job : (p : ℕ) → p < job_pieces plan → (j : ℕ) × (i : ℕ) × (piece_numbered plan p ≡ OfJob j i)
  pub of_script : (k : ℕ) → piece_numbered plan (job_pieces plan + k) ≡ OfScript k
  -- each piece stands at its place, and nothing else stands in script order
  pub place : (x : Piece) → IsPieceOf plan x → slice_get (script_order plan) (place_of plan x) ≡ Some x
  pub placed : (p : ℕ) (x : Piece) → slice_get (script_order plan) p ≡ Some x
      → IsPieceOf plan x × (place_of plan x ≡ p)

abbrev pub PiecesAreNamed : Type 0
PiecesAreNamed = (plan : Plan) → IsWellOrderedPlan plan → IsNamed plan

-- The contents that the words of a container stand for are those that are read from them.
abbrev pub ContentsAreRead : Type 0
ContentsAreRead = (b : Bind) (cells : ℕ → ℤ) (c : Contents) → Holds cells b c → contents_in b cells ≡ c

-- the own word of a piece
abbrev pub IsOwn : Plan → Piece → ℕ → Type 0
IsOwn plan (OfScript k) w = ⊥
IsOwn plan (OfJob j i) w = w ≡ own_word plan j i

-- A piece touches words of the plan alone. It writes words of containers and its own word.
pub record StaysWithin (plan : Plan) (x : Piece) : Type 0 where
  pub read : (w : ℕ) → reads_in (touches plan x) w ≡ true → w < plan.words
  pub written : (w : ℕ) → writes_in (touches plan x) w ≡ true → (w < plan.cells) ⊎ IsOwn plan x w

abbrev pub PiecesStayWithin : Type 0
PiecesStayWithin = (plan : Plan) → IsWellOrderedPlan plan → (x : Piece) → IsPieceOf plan x → StaysWithin plan x

-- the same by numbers, whatever the number
abbrev pub ReadsStayWithin : Type 0
ReadsStayWithin = (plan : Plan) → IsWellOrderedPlan plan → (p w : ℕ) → reads plan p w ≡ true → w < plan.words

-- Where jobs fit their kernels, no piece of a job writes a word that another piece of it reads or writes.
abbrev pub PartsAreApart : Type 0
PartsAreApart = (plan : Plan) → AreJobsFitting plan → (j i h w : ℕ) (x : JobPlan) → job_at plan j ≡ Some x
    → i < pieces_of x → h < pieces_of x → i ≢ h
    → writes_in (touches plan (OfJob j i)) w ≡ true → reads_in (touches plan (OfJob j h)) w ≡ true → ⊥

-- The numbers by which words keep traps. A clause that cites a number by its name says nothing of its value.
pub record TrapNumbersAreThese : Type 0 where
  pub overflow : trap_number Overflow ≡ 1
  pub zero_divisor : trap_number ZeroDivisor ≡ 2
  pub range : trap_number Range ≡ 3
  pub own_index : trap_number OwnIndex ≡ 4
  pub full : trap_number Full ≡ 5
  pub missing_key : trap_number MissingKey ≡ 6
  pub present_key : trap_number PresentKey ≡ 7
  pub written : trap_number Written ≡ 8
  pub budget : trap_number Budget ≡ 9

-- the own word notes the traps
abbrev pub TellsTraps : ℕ → List (ℕ × Trap) → Cells → Type 0
TellsTraps own traps cells = cells own ≡ pos (note_of traps)

abbrev pub AreIndexesBelow : ℕ → List (ℕ × Trap) → Type 0
AreIndexesBelow n [] = Unit {0}
AreIndexesBelow n (t ∷ more) = (t.0 < n) × AreIndexesBelow n more

-- In the run in script order the own word of each piece tells its traps, before the last segment and after all pieces.
pub record AreTold (plan : Plan) (j i : ℕ) (traps : List (ℕ × Trap)) : Type 0 where
  pub last : (k : ℕ) → suc k ≡ length plan.segments.items
      → TellsTraps (own_word plan j i) traps (before_piece plan (OfScript k))
  pub after : TellsTraps (own_word plan j i) traps (cells_after plan)
  -- no more of them, and no greater indexes, than jobs have indexes
  pub few : length traps ≤ MOST_INDEXES
  pub below : AreIndexesBelow MOST_INDEXES traps

abbrev pub TrapsAreTold : Type 0
TrapsAreTold = (plan : Plan) → IsWellOrderedPlan plan → (j i : ℕ) → IsPieceOf plan (OfJob j i)
    → AreTold plan j i (part_run plan j i (before_piece plan (OfJob j i))).traps

-- The traps of a plan are those of its pieces in the order of their numbers.
abbrev pub TrapsComeByNumber : Type 0
TrapsComeByNumber = (plan : Plan) → plan_traps plan ≡ first_traps plan (job_pieces plan)
