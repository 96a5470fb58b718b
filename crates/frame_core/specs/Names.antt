-- What the numbers in a plan name.
use Rattle.std.specs.Prelude.{ℕ, zero, suc, ◌+◌, ◌<◌, Bool, false, ◌||◌, nat_eq, if◌then◌else◌, ℤ, List, [], ◌∷◌, ◌++◌, length, map, get_or, Option, None, Some, slice_get}
use Rattle.job_base.specs.declared.JobId.{JobId}
use Rattle.job_base.specs.declared.Span.{Span}
use Rattle.batch_cut.specs.Cuts.{count_of, piece_of}
use Rattle.frame_ast.specs.declared.kernel.Kernel.{Kernel}
use Rattle.frame_core.specs.declared.plan.JobPlan.{JobPlan}
use Rattle.frame_core.specs.declared.plan.Segment.{Segment}
use Rattle.frame_core.specs.declared.plan.Op.{Op}
use Rattle.frame_core.specs.declared.plan.Plan.{Plan}

-- Jobs are numbered from 1. In these definitions j is the place of a job among the plan's jobs, from 0, so its number
-- is j + 1.

-- the number of a job of the plan
abbrev pub IsJobOf : Plan → JobId → Type 0
IsJobOf plan id = (0 < id.0) × (id.0 < length plan.jobs.items + 1)

-- whether a list of jobs has the job of that number
abbrev pub has_job : List JobId → ℕ → Bool
has_job [] n = false
has_job (id ∷ more) n = nat_eq id.0 n || has_job more n

abbrev pub is_job : Option JobId → ℕ → Bool
is_job None n = false
is_job (Some id) n = nat_eq id.0 n

-- the parts of a job and of a segment; past the last one there is nothing

abbrev pub deps_in : Option JobPlan → List JobId
deps_in None = []
deps_in (Some x) = x.deps.items

abbrev pub waits_in : Option Segment → List JobId
waits_in None = []
waits_in (Some s) = s.waits.items

abbrev pub ops_in : Option Segment → List Op
ops_in None = []
ops_in (Some s) = s.ops.items

abbrev pub starts_in : Option Segment → Option JobId
starts_in None = None
starts_in (Some s) = s.starts

abbrev pub job_at : Plan → ℕ → Option JobPlan
job_at plan j = slice_get plan.jobs.items j

abbrev pub segment_at : Plan → ℕ → Option Segment
segment_at plan k = slice_get plan.segments.items k

abbrev pub kernel_of : Plan → JobPlan → Option Kernel
kernel_of plan x = slice_get plan.kernels.items x.kernel

-- the text of a name, and the elements of a literal
abbrev pub name_of : Plan → ℕ → List ℕ
name_of plan n = get_or plan.names n []

abbrev pub literal_of : Plan → ℕ → List ℤ
literal_of plan n = get_or (map (λ v. v.items) plan.literals.items) n []

-- how many pieces a job has, and the indexes of one of them
abbrev pub pieces_of : JobPlan → ℕ
pieces_of x = if x.parallel then count_of x.cut.n x.cut.step else 1

abbrev pub indexes_of : JobPlan → ℕ → Span
indexes_of x i = if x.parallel then piece_of x.cut.n x.cut.step i else record { start = 0; len = x.cut.n }

-- how many pieces the first jobs have together, and all jobs
abbrev pub pieces_before : List JobPlan → ℕ → ℕ
pieces_before jobs zero = 0
pieces_before [] (suc j) = 0
pieces_before (x ∷ more) (suc j) = pieces_of x + pieces_before more j

abbrev pub job_pieces : Plan → ℕ
job_pieces plan = pieces_before plan.jobs.items (length plan.jobs.items)

-- the numbers of the jobs that the segments start, in their order
abbrev pub number_in : Option JobId → List ℕ
number_in None = []
number_in (Some id) = id.0 ∷ []

abbrev pub starts_from : List Segment → List ℕ
starts_from [] = []
starts_from (s ∷ more) = number_in s.starts ++ starts_from more

-- so many numbers, from one on
abbrev pub numbers_from : ℕ → ℕ → List ℕ
numbers_from n zero = []
numbers_from n (suc k) = n ∷ numbers_from (suc n) k
