-- What a plan so far keeps, beside the state that the script is in.
--
-- Decided here is the relation between the two: the pieces are in order, what numbers name is there, the words of
-- containers stand for their contents, and the output is that of the script. A plan is of a whole script, or of a
-- section of one. How each statement keeps the relation stands in the files after this one, and what a finished plan
-- is in `Finishing`.
use Rattle.std.specs.Prelude.{ℕ, ◌+◌, ◌-◌, ◌≡◌, ◌<◌, ◌≤◌, true, List, [], ◌∷◌, ◌++◌, length, map, All, Option, None, Some, slice_get}
use Rattle.job_base.specs.declared.JobId.{JobId}
use Rattle.frame_ast.specs.declared.kernel.Kernel.{Kernel}
use Rattle.frame_ast.specs.Contents.{Contents}
use Rattle.frame_ast.specs.Ranges.{Starts}
use Rattle.frame_ast.specs.States.{ScriptState, JobTrap, is_live}
use Rattle.kernel_exec.specs.Binds.{end_of}
use Rattle.kernel_exec.specs.Layout.{Holds, StandFor}
use Rattle.merge_laws.specs.Pieces.{Piece, piece_at, AreFramed}
use Rattle.merge_laws.specs.Ledger.{Ledger, IsLedger, AreInOrder}
use Rattle.frame_core.specs.declared.plan.JobPlan.{JobPlan}
use Rattle.frame_core.specs.declared.plan.Op.{Op}
use Rattle.frame_core.specs.declared.plan.Segment.{Segment}
use Rattle.frame_core.specs.declared.plan.Plan.{Plan}
use Rattle.frame_core.specs.Names.{job_at, kernel_of, pieces_before, starts_from, number_in, numbers_from}
use Rattle.frame_core.specs.Output.{pieces_in}
use Rattle.frame_core.specs.Ordered.{IsAbove, OpFits, JobFits, OpsStand}
use Rattle.frame_core.specs.Graphs.{cells_at_first}
use Rattle.plan_laws.specs.Binds.{bind_of_container}
use Rattle.plan_laws.specs.Drafts.{Draft, Output, segment_piece, started_parts, parts, pieces_of, cells_closed, cells_of, output_of, cells_past}
use Rattle.plan_laws.specs.Ledgers.{ledger_of}

-- What a section is planned by: the whole plan that it becomes, where ranges start, and the state in which it begins. A
-- script without a `when` is one section, which begins in the first state.
pub record Outline : Type 0 where
  pub plan : Plan
  pub starts : Starts
  pub begun : ScriptState

abbrev pub jobs_before : Outline → ℕ
jobs_before x = x.begun.book.count

abbrev pub ledger_at : Outline → ScriptState → Draft → Ledger
ledger_at x s d = ledger_of x.plan x.starts (jobs_before x) (length d.jobs) s

-- ORDER: its pieces are in order for the ledger, and each job has a piece.

abbrev pub HasPieceOf : List Piece → ℕ → Type 0
HasPieceOf pieces j = (p : ℕ) × (p < length pieces) × ((piece_at pieces p).job ≡ j)

pub record IsOrdered (x : Outline) (s : ScriptState) (d : Draft) : Type 0 where
  pub count : s.book.count ≡ jobs_before x + length d.jobs
  -- the jobs of earlier sections are completed
  pub before : (j : ℕ) → 0 < j → j ≤ jobs_before x → s.book.completed j ≡ true
  pub ledger : IsLedger (ledger_at x s d)
  pub pieces : AreInOrder (ledger_at x s d) (pieces_of x.plan d)
  pub parts : (j : ℕ) → 0 < j → j ≤ length d.jobs → HasPieceOf (pieces_of x.plan d) j
  pub framed : AreFramed (cells_at_first x.plan) (pieces_of x.plan d)

-- FITS: what its numbers name is there, and is of the right kind.

abbrev pub AreJobsUpTo : ℕ → List JobId → Type 0
AreJobsUpTo n ids = IsAbove 0 ids × All (λ (id : JobId). id.0 ≤ n) ids

-- so many jobs are started before the segment
pub record SegmentFits (plan : Plan) (n : ℕ) (s : Segment) : Type 0 where
  pub waits : AreJobsUpTo n s.waits.items
  pub ops : All (OpFits plan) s.ops.items

-- a segment waits for jobs that were started before it
abbrev pub SegmentsFit : Plan → ℕ → List Segment → Type 0
SegmentsFit plan n [] = Unit {0}
SegmentsFit plan n (s ∷ more) = SegmentFits plan n s × SegmentsFit plan (n + length (number_in s.starts)) more

pub record IsFitting (x : Outline) (d : Draft) : Type 0 where
  -- the cells at first are those of words of containers
  pub first : length x.plan.first.items ≤ x.plan.cells
  -- the jobs of the whole plan begin with those so far
  pub jobs_later : List JobPlan
  pub jobs_are : x.plan.jobs.items ≡ d.jobs ++ jobs_later
  pub jobs_fit : (j : ℕ) (job : JobPlan) → slice_get d.jobs j ≡ Some job
      → (k : Kernel) × (kernel_of x.plan job ≡ Some k) × JobFits x.plan job k
  pub firsts : (j : ℕ) (job : JobPlan) → slice_get d.jobs j ≡ Some job → job.first.0 ≡ pieces_before d.jobs j
  -- a job depends on jobs before it
  pub deps : (j : ℕ) (job : JobPlan) → slice_get d.jobs j ≡ Some job → AreJobsUpTo j job.deps.items
  pub starts : starts_from d.segments ≡ numbers_from 1 (length d.jobs)
  pub closed : SegmentsFit x.plan 0 d.segments
  pub waits : AreJobsUpTo (length d.jobs) d.waits
  pub ops : All (OpFits x.plan) d.ops

-- STANDS: words stand for contents, before each operation, before each piece of a job, and after all of them.

abbrev pub PartsStand : Plan → List Piece → ℕ → Option JobPlan → Type 0
PartsStand plan earlier j None = Unit {0}
PartsStand plan earlier j (Some job) = (i : ℕ) → i < pieces_in (Some job)
    → (contents : List Contents) × StandFor job.binds.items (cells_past plan (parts plan j i ++ earlier)) contents

abbrev pub StartedStand : Plan → List Piece → Option JobId → Type 0
StartedStand plan earlier None = Unit {0}
StartedStand plan earlier (Some id) = PartsStand plan earlier (id.0 - 1) (job_at plan (id.0 - 1))

abbrev pub ClosedStand : Plan → List Piece → List Segment → Type 0
ClosedStand plan earlier [] = Unit {0}
ClosedStand plan earlier (s ∷ more) =
    let here = segment_piece plan s.waits.items s.ops.items ∷ earlier in
    OpsStand plan s.ops.items (cells_past plan earlier)
    × StartedStand plan here s.starts
    × ClosedStand plan (started_parts plan s.starts ++ here) more

pub record IsStanding (x : Outline) (s : ScriptState) (d : Draft) : Type 0 where
  pub closed : ClosedStand x.plan [] d.segments
  pub ops : OpsStand x.plan d.ops (cells_closed x.plan d)
  -- the words of each container that is alive stand for its contents
  pub contents : (c : ℕ) → c < s.made → s.alive c ≡ true
      → Holds (cells_of x.plan d) (bind_of_container x.starts s c) (s.contents c)
  pub within : (c : ℕ) → is_live s c ≡ true → end_of (bind_of_container x.starts s c) ≤ x.plan.cells

-- TELLS: what it tells is what the script has out since the section began. In a section jobs are numbered anew.

abbrev pub renumbered : ℕ → JobTrap → JobTrap
renumbered before t = record t { job = before + t.job }

pub record HasOutput (x : Outline) (s : ScriptState) (out : Output) : Type 0 where
  pub lines : s.lines ≡ x.begun.lines ++ out.lines
  pub refused : s.refused ≡ x.begun.refused + out.refused
  pub traps : s.traps ≡ x.begun.traps ++ map (renumbered (jobs_before x)) out.traps

pub record IsPlanned (x : Outline) (s : ScriptState) (d : Draft) : Type 0 where
  pub ordered : IsOrdered x s d
  pub fitting : IsFitting x d
  pub standing : IsStanding x s d
  pub output : HasOutput x s (output_of x.plan d)

-- THE WAYS IN WHICH A PLAN GOES ON

-- the segment at hand does more
pub record Adds (d e : Draft) (more : List Op) : Type 0 where
  pub segments : e.segments ≡ d.segments
  pub jobs : e.jobs ≡ d.jobs
  pub waits : e.waits ≡ d.waits
  pub ops : e.ops ≡ d.ops ++ more

-- it is closed, and a new one begins
pub record Closes (d e : Draft) (s : Segment) (more : List JobPlan) (after : List JobId) : Type 0 where
  pub waits_were : s.waits.items ≡ d.waits
  pub ops_were : s.ops.items ≡ d.ops
  pub segments : e.segments ≡ d.segments ++ s ∷ []
  pub jobs : e.jobs ≡ d.jobs ++ more
  pub waits : e.waits ≡ after
  pub ops : e.ops ≡ []
