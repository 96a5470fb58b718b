-- What a timeline shows, without its times and workers.
--
-- Decided here: which data stands for a job, for a piece and for an arrow. j is the place of a job among the plan's
-- jobs and i that of a piece among the job's pieces, from 0, so their numbers are j + 1 and i + 1.
use Rattle.std.specs.Prelude.{ℕ, zero, suc, ◌+◌, List, [], ◌∷◌, ◌++◌, map, Option, Some, None, string_bytes, Vec}
use Rattle.std.specs.declared.alloc.Global.{Global}
use Rattle.frame_ast.specs.declared.kernel.Kernel.{Kernel}
use Rattle.frame_ast.specs.declared.script.Script.{Script}
use Rattle.frame_ast.specs.declared.script.Statement.{Statement}
use Rattle.frame_core.specs.declared.plan.JobPlan.{JobPlan}
use Rattle.frame_core.specs.declared.plan.Plan.{Plan}
use Rattle.frame_core.specs.Names.{kernel_of, pieces_of, indexes_of, numbers_from}
use Rattle.plan_waits.specs.declared.arrow.Arrow.{Arrow}
use Rattle.frame_view.specs.declared.story.Story.{Story}
use Rattle.frame_view.specs.Boxes.{maker_of}
use Rattle.trace_text.specs.declared.data.PieceTrace.{PieceTrace}
use Rattle.trace_text.specs.declared.data.JobTrace.{JobTrace}
use Rattle.trace_text.specs.declared.data.SegmentTrace.{SegmentTrace}
use Rattle.trace_text.specs.declared.data.ArrowTrace.{ArrowTrace}

-- PIECES

pub record PieceShape : Type 0 where
  pub number : ℕ
  -- its first index, and how many it has
  pub first : ℕ
  pub count : ℕ

abbrev pub piece_shape : PieceTrace → PieceShape
piece_shape p = record { number = p.number; first = p.first; count = p.count }

abbrev pub shape_at : JobPlan → ℕ → PieceShape
shape_at x i = record { number = i + 1; first = (indexes_of x i).start; count = (indexes_of x i).len }

-- so many pieces of a job, from piece i on
abbrev pub piece_shapes : JobPlan → ℕ → ℕ → List PieceShape
piece_shapes x i zero = []
piece_shapes x i (suc n) = shape_at x i ∷ piece_shapes x (i + 1) n

-- JOBS

pub record JobShape : Type 0 where
  pub kernel : List ℕ
  pub number : ℕ
  pub line : Option ℕ
  pub pieces : List PieceShape

abbrev pub job_shape : JobTrace → JobShape
job_shape t = record {
  kernel = string_bytes t.kernel;
  number = t.number;
  line = t.line;
  pieces = map piece_shape t.pieces.items;
}

abbrev pub name_by : Option Kernel → List ℕ
name_by None = []
name_by (Some k) = string_bytes k.name

abbrev pub kernel_name : Plan → JobPlan → List ℕ
kernel_name plan x = name_by (kernel_of plan x)

abbrev pub line_by : Option Statement → Option ℕ
line_by None = None
line_by (Some x) = Some x.line

-- A job: the name of its kernel, its number, the line of the schedule that made it by the story, and its pieces.
abbrev pub shape_of_job : Script → Plan → Story → ℕ → JobPlan → JobShape
shape_of_job script plan story j x = record {
  kernel = kernel_name plan x;
  number = j + 1;
  line = line_by (maker_of script story j);
  pieces = piece_shapes x 0 (pieces_of x);
}

-- those of some jobs, the first of which is at place j
abbrev pub job_shapes : Script → Plan → Story → ℕ → List JobPlan → List JobShape
job_shapes script plan story j [] = []
job_shapes script plan story j (x ∷ more) = shape_of_job script plan story j x
    ∷ job_shapes script plan story (j + 1) more

-- SEGMENTS

abbrev pub segment_number : SegmentTrace → ℕ
segment_number g = g.number

-- Those of so many segments are shown where there are jobs. A section without jobs is run at one go.
abbrev pub shown_numbers : List JobPlan → ℕ → List ℕ
shown_numbers [] n = []
shown_numbers (x ∷ more) n = numbers_from 1 n

-- ARROWS, from a job to a later one, by their numbers

pub record ArrowShape : Type 0 where
  pub earlier : ℕ
  pub later : ℕ

abbrev pub arrow_shape : ArrowTrace → ArrowShape
arrow_shape a = record { earlier = a.earlier; later = a.later }

abbrev pub arrow_shape_of : ℕ → Arrow → ArrowShape
arrow_shape_of later a = record { earlier = a.from.0; later = later }

-- those of some jobs, the first of which has this number
abbrev pub arrow_shapes : ℕ → List (Vec Arrow Global) → List ArrowShape
arrow_shapes number [] = []
arrow_shapes number (arrows ∷ more) = map (arrow_shape_of number) arrows.items ++ arrow_shapes (number + 1) more
