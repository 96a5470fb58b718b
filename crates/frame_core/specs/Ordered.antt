-- When a plan is well ordered.
use Rattle.std.specs.Prelude.{ℕ, suc, ◌+◌, ◌*◌, ◌≡◌, ◌≤◌, ◌<◌, ◌^◌, ◌⊎◌, true, false, List, [], ◌∷◌, length, All, Option, None, Some, slice_get}
use Rattle.job_base.specs.declared.JobId.{JobId}
use Rattle.job_base.specs.declared.Span.{Span}
use Rattle.job_base.specs.declared.limits.TheConstants.{MOST_JOBS, MOST_PIECES, MOST_INDEXES}
use Rattle.frame_ast.specs.declared.kernel.Kernel.{Kernel}
use Rattle.frame_ast.specs.Contents.{Contents}
use Rattle.frame_ast.specs.Schedules.{widths_from}
use Rattle.frame_ast.specs.Checked.{IsChecked}
use Rattle.kernel_bytecode.specs.declared.code.Code.{Code}
use Rattle.kernel_bytecode.specs.Codes.{IsCodeOf}
use Rattle.kernel_exec.specs.declared.binds.Bind.{Bind}
use Rattle.kernel_exec.specs.declared.binds.Bind.TheVariants.{Int, Array, View, List as WholeList, Ref, Map, Stream}
use Rattle.kernel_exec.specs.Binds.{end_of, own_of, widths}
use Rattle.kernel_exec.specs.Conditions.{BindsFit}
use Rattle.kernel_exec.specs.Layout.{Holds, StandFor}
use Rattle.kernel_exec.specs.Laws.{HaveOwnParts}
use Rattle.merge_laws.specs.Graph.{Cells, LeadsTo, Conflicts, PieceGraph}
use Rattle.frame_core.specs.declared.plan.Act.{Act}
use Rattle.frame_core.specs.declared.plan.Act.TheVariants.{Fill, Move, Say, Set, AddTo, Put, Remove, Clear, Print, Report}
use Rattle.frame_core.specs.declared.plan.JobPlan.{JobPlan}
use Rattle.frame_core.specs.declared.plan.Op.{Op}
use Rattle.frame_core.specs.declared.plan.Segment.{Segment}
use Rattle.frame_core.specs.declared.plan.Plan.{Plan}
use Rattle.frame_core.specs.Names.{kernel_of, job_at, segment_at, literal_of, pieces_of, pieces_before, job_pieces, has_job, waits_in, starts_from, numbers_from}
use Rattle.frame_core.specs.declared.piece.Piece.TheVariants.{OfScript, OfJob}
use Rattle.frame_core.specs.Operations.{op_cells}
use Rattle.frame_core.specs.Graphs.{graph_of, before_piece}

-- how many operations the segments have together
abbrev pub ops_count : List Segment → ℕ
ops_count [] = 0
ops_count (s ∷ more) = length s.ops.items + ops_count more

-- 1. SIZES: at most 4,096 jobs, and what is counted fits 32 bits. The cells at first are those of words of containers,
-- so each own word is 0 at first.
pub record IsSized (plan : Plan) : Type 0 where
  pub jobs : length plan.jobs.items ≤ MOST_JOBS
  pub words_are : plan.words ≡ plan.cells + job_pieces plan
  pub words : plan.words < 2 ^ 32
  pub first : length plan.first.items ≤ plan.cells
  pub pieces : job_pieces plan + length plan.segments.items < 2 ^ 32
  pub ops : ops_count plan.segments.items < 2 ^ 32

-- 2. JOBS FIT THEIR KERNELS.

-- numbers of jobs of the plan, in rising order, each once
abbrev pub IsAbove : ℕ → List JobId → Type 0
IsAbove n [] = Unit {0}
IsAbove n (id ∷ more) = (n < id.0) × IsAbove id.0 more

abbrev pub AreJobs : Plan → List JobId → Type 0
AreJobs plan ids = IsAbove 0 ids × All (λ (id : JobId). id.0 ≤ length plan.jobs.items) ids

-- The widths of the own-index rule are those of the language, where some parameters may be waived.
pub record HasWidths (kernel : Kernel) (binds : List Bind) : Type 0 where
  pub waived : List ℕ
  pub widths_are : widths binds ≡ widths_from kernel.parallel waived 0 kernel.params.items

-- the cut of a job's indexes is one that `cut` gives
pub record IsCutIn (x : JobPlan) : Type 0 where
  pub step : (1 ≤ x.cut.step) × (x.cut.step ≤ MOST_INDEXES)
  pub pieces : x.cut.n ≤ MOST_PIECES * x.cut.step
  pub indexes : x.cut.n ≤ MOST_INDEXES

pub record JobFits (plan : Plan) (x : JobPlan) (kernel : Kernel) : Type 0 where
  pub binds : BindsFit kernel x.binds.items
  pub within : (y : ℕ) (b : Bind) → slice_get x.binds.items y ≡ Some b → end_of b ≤ plan.cells
  pub widths : HasWidths kernel x.binds.items
  pub cut : IsCutIn x
  -- a kernel that isn't parallel has one index
  pub one : kernel.parallel ≡ false → (x.cut.n ≡ 1) × (x.cut.step ≡ 1)
  pub deps : AreJobs plan x.deps.items
  -- where its pieces may run at once, each index owns a part of all that is written
  pub is_parallel : x.parallel ≡ true → kernel.parallel ≡ true
  pub parts : x.parallel ≡ true → HaveOwnParts kernel x.binds.items

-- each kernel has its code at the same place
pub record AreCodesOf (kernels : List Kernel) (codes : List Code) : Type 0 where
  pub each : length codes ≡ length kernels
  pub coded : (n : ℕ) (k : Kernel) (code : Code) → slice_get kernels n ≡ Some k → slice_get codes n ≡ Some code
      → IsCodeOf k code

pub record AreJobsFitting (plan : Plan) : Type 0 where
  pub checked : (n : ℕ) (kernel : Kernel) → slice_get plan.kernels.items n ≡ Some kernel → IsChecked kernel
  pub coded : AreCodesOf plan.kernels.items plan.codes.items
  pub has_kernel : (j : ℕ) (x : JobPlan) → job_at plan j ≡ Some x → x.kernel < length plan.kernels.items
  pub fits : (j : ℕ) (x : JobPlan) (kernel : Kernel) → job_at plan j ≡ Some x → kernel_of plan x ≡ Some kernel
      → JobFits plan x kernel

-- 3. OPERATIONS FIT THEIR STATEMENTS.

-- the words of the bind are among those of containers, and no own-index rule holds
abbrev pub StandsIn : Plan → Bind → Type 0
StandsIn plan b = (end_of b ≤ plan.cells) × (own_of b ≡ 0)

abbrev pub SpanIn : Plan → Span → Type 0
SpanIn plan span = span.start + span.len ≤ plan.cells

abbrev pub IsLiteral : Plan → Span → Option ℕ → Type 0
IsLiteral plan span None = Unit {0}
IsLiteral plan span (Some n) = (n < length plan.literals.items) × (length (literal_of plan n) ≡ span.len)

-- which kinds of container a statement takes

abbrev pub MayBeSet : Bind → Type 0
MayBeSet (Int z) = ⊥
MayBeSet (Array at own) = Unit {0}
MayBeSet (View at own) = Unit {0}
MayBeSet (WholeList at) = Unit {0}
MayBeSet (Ref at) = Unit {0}
MayBeSet (Map at) = ⊥
MayBeSet (Stream at own) = ⊥

abbrev pub IsListOrMap : Bind → Type 0
IsListOrMap (WholeList at) = Unit {0}
IsListOrMap (Map at) = Unit {0}
IsListOrMap _ = ⊥

abbrev pub IsMap : Bind → Type 0
IsMap (Map at) = Unit {0}
IsMap _ = ⊥

abbrev pub MayBeCleared : Bind → Type 0
MayBeCleared (WholeList at) = Unit {0}
MayBeCleared (Map at) = Unit {0}
MayBeCleared (Stream at own) = Unit {0}
MayBeCleared _ = ⊥

abbrev pub IsContainer : Bind → Type 0
IsContainer (Int z) = ⊥
IsContainer _ = Unit {0}

-- one span ends before the other begins
abbrev pub AreApart : Span → Span → Type 0
AreApart from to = (from.start + from.len ≤ to.start) ⊎ (to.start + to.len ≤ from.start)

abbrev pub ActFits : Plan → Act → Type 0
ActFits plan (Fill span literal) = SpanIn plan span × IsLiteral plan span literal
ActFits plan (Move from to) = SpanIn plan from × SpanIn plan to × (from.len ≤ to.len) × AreApart from to
ActFits plan (Say refusal) = Unit {0}
ActFits plan (Set at i v) = StandsIn plan at × MayBeSet at
ActFits plan (AddTo at k v) = StandsIn plan at × IsListOrMap at
ActFits plan (Put at k v) = StandsIn plan at × IsMap at
ActFits plan (Remove at i) = StandsIn plan at × IsListOrMap at
ActFits plan (Clear at) = StandsIn plan at × MayBeCleared at
ActFits plan (Print at) = StandsIn plan at × IsContainer at
ActFits plan (Report made) = Unit {0}

pub record OpFits (plan : Plan) (op : Op) : Type 0 where
  pub name : op.name < length plan.names
  pub act : ActFits plan op.act

-- of every operation of the plan
abbrev pub AreOpsFitting : Plan → Type 0
AreOpsFitting plan = (k : ℕ) (s : Segment) → segment_at plan k ≡ Some s → All (OpFits plan) s.ops.items

-- 4. JOBS AND SEGMENTS ARE IN ORDER.

pub record AreInOrder (plan : Plan) : Type 0 where
  -- one segment more than a number, which is that of the last segment
  pub last : ℕ
  pub last_is : suc last ≡ length plan.segments.items
  -- each job is started by one segment, in rising order
  pub starts : starts_from plan.segments.items ≡ numbers_from 1 (length plan.jobs.items)
  pub waits : (k : ℕ) (s : Segment) → segment_at plan k ≡ Some s → AreJobs plan s.waits.items
  -- the last segment waits for every job
  pub last_waits : (j : ℕ) → j < length plan.jobs.items → has_job (waits_in (segment_at plan last)) (suc j) ≡ true
  pub firsts : (j : ℕ) (x : JobPlan) → job_at plan j ≡ Some x → x.first.0 ≡ pieces_before plan.jobs.items j
  -- a predecessor is earlier in script order
  pub earlier : (p q : ℕ) → q < (graph_of plan).count → (graph_of plan).precedes p q ≡ true → p < q

-- 5. CONFLICTS ARE ORDERED: of two pieces with conflicting footprints the earlier leads to the later.
abbrev pub ConflictsLead : PieceGraph → Type 0
ConflictsLead g = (p q w : ℕ) → p < q → q < g.count → Conflicts g p q w → LeadsTo g p q

-- 6. WORDS STAND FOR CONTENTS, in the run in script order: the words of each operation before it, and those of a job's
-- binds before each piece.

abbrev pub ActStands : Act → Cells → Type 0
ActStands (Fill span literal) cells = Unit {0}
ActStands (Move from to) cells = Unit {0}
ActStands (Say refusal) cells = Unit {0}
ActStands (Set at i v) cells = (c : Contents) × Holds cells at c
ActStands (AddTo at k v) cells = (c : Contents) × Holds cells at c
ActStands (Put at k v) cells = (c : Contents) × Holds cells at c
ActStands (Remove at i) cells = (c : Contents) × Holds cells at c
ActStands (Clear at) cells = (c : Contents) × Holds cells at c
ActStands (Print at) cells = (c : Contents) × Holds cells at c
ActStands (Report made) cells = Unit {0}

abbrev pub OpsStand : Plan → List Op → Cells → Type 0
OpsStand plan [] cells = Unit {0}
OpsStand plan (op ∷ more) cells = ActStands op.act cells × OpsStand plan more (op_cells plan op cells)

pub record WordsStand (plan : Plan) : Type 0 where
  pub ops : (k : ℕ) (s : Segment) → segment_at plan k ≡ Some s
      → OpsStand plan s.ops.items (before_piece plan (OfScript k))
  pub binds : (j i : ℕ) (x : JobPlan) → job_at plan j ≡ Some x → i < pieces_of x
      → (contents : List Contents) × StandFor x.binds.items (before_piece plan (OfJob j i)) contents

pub record IsWellOrderedPlan (plan : Plan) : Type 0 where
  pub sized : IsSized plan
  pub jobs : AreJobsFitting plan
  pub ops : AreOpsFitting plan
  pub order : AreInOrder plan
  pub conflicts : ConflictsLead (graph_of plan)
  pub stand : WordsStand plan
