-- What each piece touches, and what it makes of the cells.
use Rattle.std.specs.Prelude.{ℕ, suc, ◌+◌, ◌*◌, Bool, true, false, nat_eq, if◌then◌else◌, pos, List, [], ◌∷◌, ◌++◌, length, Option, None, Some}
use Rattle.job_base.specs.declared.Trap.{Trap}
use Rattle.job_base.specs.declared.Trap.TheVariants.{Overflow, ZeroDivisor, Range, OwnIndex, Full, MissingKey, PresentKey, Written, Budget}
use Rattle.job_base.specs.Cells.{with_cell}
use Rattle.frame_ast.specs.declared.kernel.Kernel.{Kernel}
use Rattle.frame_ast.specs.declared.kernel.Param.{Param}
use Rattle.frame_ast.specs.JobRuns.{Ran, full_steps}
use Rattle.kernel_exec.specs.Laws.{at_indexes}
use Rattle.merge_laws.specs.Graph.{Cells}
use Rattle.frame_core.specs.declared.plan.JobPlan.{JobPlan}
use Rattle.frame_core.specs.declared.plan.Plan.{Plan}
use Rattle.frame_core.specs.declared.touch.Touch.{Touch}
use Rattle.frame_core.specs.declared.trap_numbers.TheConstants.{OVERFLOW, ZERO_DIVISOR, RANGE, OWN_INDEX, FULL, MISSING_KEY, PRESENT_KEY, WRITTEN, BUDGET, NOTE_UNIT}
use Rattle.frame_core.specs.Names.{job_at, segment_at, kernel_of, ops_in, indexes_of}
use Rattle.frame_core.specs.declared.piece.Piece.{Piece}
use Rattle.frame_core.specs.declared.piece.Piece.TheVariants.{OfScript, OfJob}
use Rattle.frame_core.specs.Pieces.{own_word}
use Rattle.frame_core.specs.Touches.{binds_touch, ops_touch}
use Rattle.frame_core.specs.Operations.{ops_cells}

-- WHAT IT TOUCHES

abbrev pub params_in : Option Kernel → List Param
params_in None = []
params_in (Some k) = k.params.items

-- A piece of a job writes its own word, beside what its indexes touch of the binds.
abbrev pub part_touches : Plan → ℕ → ℕ → Option JobPlan → List Touch
part_touches plan j i None = []
part_touches plan j i (Some x) =
    let own = own_word plan j i in
    let span = indexes_of x i in
    let to = span.start + span.len in
    record { from = own; end = own + 1; written = true }
    ∷ binds_touch x.parallel (params_in (kernel_of plan x)) x.binds.items span.start to

-- The last segment also reads the own words of all pieces.
abbrev pub is_last : Plan → ℕ → Bool
is_last plan k = nat_eq (suc k) (length plan.segments.items)

abbrev pub all_own_words : Plan → Touch
all_own_words plan = record { from = plan.cells; end = plan.words; written = false }

abbrev pub segment_touches : Plan → ℕ → List Touch
segment_touches plan k =
    ops_touch (ops_in (segment_at plan k)) ++ (if is_last plan k then all_own_words plan ∷ [] else [])

unfoldable pub touches : Plan → Piece → List Touch
touches plan (OfScript k) = segment_touches plan k
touches plan (OfJob j i) = part_touches plan j i (job_at plan j)

-- WHAT IT MAKES OF THE CELLS

-- traps as they are kept in words
abbrev pub trap_number : Trap → ℕ
trap_number Overflow = OVERFLOW
trap_number ZeroDivisor = ZERO_DIVISOR
trap_number Range = RANGE
trap_number OwnIndex = OWN_INDEX
trap_number Full = FULL
trap_number MissingKey = MISSING_KEY
trap_number PresentKey = PRESENT_KEY
trap_number Written = WRITTEN
trap_number Budget = BUDGET

-- Traps in one word: how many, and of the first one its index and its number. A job has fewer indexes than NOTE_UNIT.
abbrev pub note_of : List (ℕ × Trap) → ℕ
note_of [] = 0
note_of (t ∷ more) = (trap_number t.1 * NOTE_UNIT + t.0) * NOTE_UNIT + (length more + 1)

-- A piece without traps leaves its own word as it is.
abbrev pub noted : ℕ → List (ℕ × Trap) → Cells → Cells
noted own [] cells = cells
noted own (t ∷ more) cells = with_cell cells own (pos (note_of (t ∷ more)))

-- the run of a job's piece: its indexes, in order
abbrev pub part_ran : JobPlan → ℕ → Option Kernel → Cells → Ran Cells
part_ran x i None cells = record { store = cells; traps = [] }
part_ran x i (Some kernel) cells =
    at_indexes kernel x.binds.items full_steps (indexes_of x i).len (indexes_of x i).start cells

abbrev pub job_ran : Plan → ℕ → Option JobPlan → Cells → Ran Cells
job_ran plan i None cells = record { store = cells; traps = [] }
job_ran plan i (Some x) cells = part_ran x i (kernel_of plan x) cells

-- piece i of the job at place j, from these cells
unfoldable pub part_run : Plan → ℕ → ℕ → Cells → Ran Cells
part_run plan j i cells = job_ran plan i (job_at plan j) cells

abbrev pub with_notes : ℕ → Ran Cells → Cells
with_notes own ran = noted own ran.traps ran.store

unfoldable pub piece_cells : Plan → Piece → Cells → Cells
piece_cells plan (OfScript k) cells = ops_cells plan (ops_in (segment_at plan k)) cells
piece_cells plan (OfJob j i) cells = with_notes (own_word plan j i) (part_run plan j i cells)
