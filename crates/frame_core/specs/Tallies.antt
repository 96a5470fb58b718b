-- What a report of a run counts: the traps, as own words say them piece by piece, and the refused statements.
use Rattle.std.specs.Prelude.{◌≡◌, ◌≢◌, ℕ, zero, suc, ◌+◌, ◌*◌, ◌%◌, ◌<◌, ◌≤◌, ◌^◌, ℤ, pos, negsuc, ◌⊎◌, List, [], ◌∷◌, ◌++◌, map, length, Some, slice_get}
use Rattle.job_base.specs.declared.Trap.{Trap}
use Rattle.job_base.specs.declared.limits.TheConstants.{MOST_INDEXES}
use Rattle.frame_ast.specs.States.{JobTrap}
use Rattle.merge_laws.specs.Graph.{Cells}
use Rattle.frame_core.specs.declared.piece.Piece.TheVariants.{OfScript, OfJob}
use Rattle.frame_core.specs.declared.plan.Plan.{Plan}
use Rattle.frame_core.specs.Names.{job_pieces}
use Rattle.frame_core.specs.Pieces.{piece_numbered}
use Rattle.frame_core.specs.declared.trap_numbers.TheConstants.{NOTE_UNIT}
use Rattle.frame_core.specs.Effects.{trap_number}
use Rattle.frame_core.specs.Graphs.{before_piece, cells_after}
use Rattle.frame_core.specs.Output.{job_trap, first_traps, plan_traps, refused_of, plan_refused}
use Rattle.frame_core.specs.Ordered.{IsWellOrderedPlan}
use Rattle.frame_core.specs.Laws.{TellsTraps, AreIndexesBelow}

-- TRAPS. A report goes over the pieces of jobs by their numbers, and reads the own word of each.

-- the own word of the piece of that number
abbrev pub own_word_numbered : Plan → ℕ → ℕ
own_word_numbered plan p = plan.cells + p

-- how many traps a word notes
abbrev pub noted_count : ℤ → ℕ
noted_count (pos n) = n % NOTE_UNIT
noted_count (negsuc n) = 0

-- how many traps the first pieces say
abbrev pub said : Plan → Cells → ℕ → ℕ
said plan cells zero = 0
said plan cells (suc p) = said plan cells p + noted_count (cells (own_word_numbered plan p))

-- The traps of one piece: the plan's traps so far go on with them, and its own word tells them.
pub record TellsNext (plan : Plan) (cells : Cells) (p : ℕ) : Type 0 where
  pub job : ℕ
  pub part : ℕ
  pub is : piece_numbered plan p ≡ OfJob job part
  pub traps : List (ℕ × Trap)
  pub next : first_traps plan (suc p) ≡ first_traps plan p ++ map (job_trap job) traps
  pub told : TellsTraps (own_word_numbered plan p) traps cells
  pub few : length traps ≤ MOST_INDEXES
  pub below : AreIndexesBelow MOST_INDEXES traps

-- The own word of one piece says the first of the plan's traps, beside how many it notes.
pub record TellsFirst (plan : Plan) (cells : Cells) (p : ℕ) : Type 0 where
  pub job : ℕ
  pub part : ℕ
  pub is : piece_numbered plan p ≡ OfJob job part
  pub trap : JobTrap
  pub first : slice_get (plan_traps plan) 0 ≡ Some trap
  pub of_job : trap.job ≡ suc job
  pub more : List (ℕ × Trap)
  pub told : TellsTraps (own_word_numbered plan p) ((trap.index, trap.trap) ∷ more) cells

-- These cells tell all traps of the plan.
pub record TellsAll (plan : Plan) (cells : Cells) : Type 0 where
  -- piece by piece, up to the last one
  pub each : (p : ℕ) → p < job_pieces plan → TellsNext plan cells p
  pub all : first_traps plan (job_pieces plan) ≡ plan_traps plan
  -- Together they say how many there are,
  pub number : said plan cells (job_pieces plan) ≡ length (plan_traps plan)
  -- and the first piece that says any says the first of them.
  pub first : (p : ℕ) → p < job_pieces plan → said plan cells p ≡ 0 → cells (own_word_numbered plan p) ≢ pos 0
      → TellsFirst plan cells p
  -- a count of 64 bits holds them
  pub so_far : (p : ℕ) → p ≤ job_pieces plan → length (first_traps plan p) ≤ MOST_INDEXES * p
  pub few : MOST_INDEXES * job_pieces plan < 2 ^ 64

-- In the run in script order the cells before the last segment tell all traps of the plan, and so do those after it.
pub record TrapsAreTallied (plan : Plan) : Type 0 where
  pub last : (k : ℕ) → suc k ≡ length plan.segments.items → TellsAll plan (before_piece plan (OfScript k))
  pub after : TellsAll plan (cells_after plan)

-- One trap comes before another: its job does, or in the same job its index.
abbrev pub ComesBefore : JobTrap → JobTrap → Type 0
ComesBefore t u = (t.job < u.job) ⊎ ((t.job ≡ u.job) × (t.index < u.index))

abbrev pub ComesBeforeAll : JobTrap → List JobTrap → Type 0
ComesBeforeAll t [] = Unit {0}
ComesBeforeAll t (u ∷ more) = ComesBefore t u × ComesBeforeAll t more

-- each comes before all later ones
abbrev pub IsRising : List JobTrap → Type 0
IsRising [] = Unit {0}
IsRising (t ∷ more) = ComesBeforeAll t more × IsRising more

-- The traps of a plan rise, so the first of them is the least.
abbrev pub TrapsRise : Type 0
TrapsRise = (plan : Plan) → IsRising (plan_traps plan)

abbrev pub ReportsTally : Type 0
ReportsTally = (plan : Plan) → IsWellOrderedPlan plan → TrapsAreTallied plan

-- REFUSED STATEMENTS. A count of 32 bits holds those of the first segments, and those of all.
pub record RefusedAreFew (plan : Plan) : Type 0 where
  pub so_far : (k : ℕ) → refused_of plan k < 2 ^ 32
  pub all : plan_refused plan < 2 ^ 32

abbrev pub RefusalsAreFew : Type 0
RefusalsAreFew = (plan : Plan) → IsWellOrderedPlan plan → RefusedAreFew plan
