-- A plan as it is made.
--
-- Decided here is which pieces a plan so far has, and which lines, refused statements and traps it gives. What its
-- numbers name is asked of a whole plan of which it is a part: the literals, kernels and jobs of that plan begin with
-- those so far, and its own words lie above all containers. So no earlier piece changes when a later one is added. What
-- a draft keeps beside the state of the script stands in `Planned`.
use Rattle.std.specs.Prelude.{ℕ, zero, suc, ◌+◌, ◌-◌, List, [], ◌∷◌, ◌++◌, map, Option, None, Some}
use Rattle.job_base.specs.declared.JobId.{JobId}
use Rattle.frame_ast.specs.States.{JobTrap}
use Rattle.merge_laws.specs.Graph.{Cells}
use Rattle.merge_laws.specs.Pieces.{Piece, cells_after}
use Rattle.frame_core.specs.declared.plan.JobPlan.{JobPlan}
use Rattle.frame_core.specs.declared.plan.Op.{Op}
use Rattle.frame_core.specs.declared.plan.Segment.{Segment}
use Rattle.frame_core.specs.declared.plan.Plan.{Plan}
use Rattle.frame_core.specs.declared.piece.Piece.TheVariants.{OfJob}
use Rattle.frame_core.specs.Names.{job_at, deps_in, has_job}
use Rattle.frame_core.specs.Touches.{reads_in, writes_in, ops_touch}
use Rattle.frame_core.specs.Operations.{ops_cells, ops_refused}
use Rattle.frame_core.specs.Effects.{touches, piece_cells, part_run}
use Rattle.frame_core.specs.Graphs.{cells_at_first}
use Rattle.frame_core.specs.Output.{ops_lines, job_trap, pieces_in}

pub record Draft : Type 0 where
  -- the segments that are closed, and the jobs, first first
  pub segments : List Segment
  pub jobs : List JobPlan
  -- the segment at hand: what it waits for, and its operations so far
  pub waits : List JobId
  pub ops : List Op

abbrev pub empty_draft : Draft
empty_draft = record { segments = []; jobs = []; waits = []; ops = [] }

-- ITS PIECES, the latest first

abbrev pub segment_piece : Plan → List JobId → List Op → Piece
segment_piece plan waits ops = record {
  job = 0;
  after = has_job waits;
  reads = reads_in (ops_touch ops);
  writes = writes_in (ops_touch ops);
  effect = ops_cells plan ops;
}

-- piece i of the job at place j
abbrev pub part_piece : Plan → ℕ → ℕ → Piece
part_piece plan j i = record {
  job = suc j;
  after = has_job (deps_in (job_at plan j));
  reads = reads_in (touches plan (OfJob j i));
  writes = writes_in (touches plan (OfJob j i));
  effect = piece_cells plan (OfJob j i);
}

abbrev pub parts : Plan → ℕ → ℕ → List Piece
parts plan j zero = []
parts plan j (suc n) = part_piece plan j n ∷ parts plan j n

abbrev pub started_parts : Plan → Option JobId → List Piece
started_parts plan None = []
started_parts plan (Some id) = parts plan (id.0 - 1) (pieces_in (job_at plan (id.0 - 1)))

-- the pieces of segments and of the jobs that they start, on top of earlier ones
abbrev pub pieces_onto : Plan → List Piece → List Segment → List Piece
pieces_onto plan earlier [] = earlier
pieces_onto plan earlier (s ∷ more) =
    pieces_onto plan (started_parts plan s.starts ++ segment_piece plan s.waits.items s.ops.items ∷ earlier) more

abbrev pub closed_pieces : Plan → Draft → List Piece
closed_pieces plan d = pieces_onto plan [] d.segments

abbrev pub pieces_of : Plan → Draft → List Piece
pieces_of plan d = segment_piece plan d.waits d.ops ∷ closed_pieces plan d

-- the cells after such pieces, in script order
abbrev pub cells_past : Plan → List Piece → Cells
cells_past plan = cells_after (cells_at_first plan)

-- the cells before the segment at hand, and after the operations so far
abbrev pub cells_closed : Plan → Draft → Cells
cells_closed plan d = cells_past plan (closed_pieces plan d)

abbrev pub cells_of : Plan → Draft → Cells
cells_of plan d = cells_past plan (pieces_of plan d)

-- ITS OUTPUT in the run in script order: lines, refused statements and traps

pub record Output : Type 0 where
  pub lines : List ℕ
  pub refused : ℕ
  pub traps : List JobTrap

abbrev pub no_output : Output
no_output = record { lines = []; refused = 0; traps = [] }

abbrev pub with_ops : Plan → List Op → Cells → Output → Output
with_ops plan ops cells out = record {
  lines = out.lines ++ ops_lines plan ops cells;
  refused = out.refused + ops_refused plan ops cells;
  traps = out.traps;
}

abbrev pub with_traps : List JobTrap → Output → Output
with_traps traps out = record out { traps = out.traps ++ traps }

-- the traps of the first pieces of a job
abbrev pub parts_traps : Plan → List Piece → ℕ → ℕ → List JobTrap
parts_traps plan earlier j zero = []
parts_traps plan earlier j (suc n) =
    parts_traps plan earlier j n
    ++ map (job_trap j) (part_run plan j n (cells_past plan (parts plan j n ++ earlier))).traps

abbrev pub started_traps : Plan → List Piece → Option JobId → List JobTrap
started_traps plan earlier None = []
started_traps plan earlier (Some id) = parts_traps plan earlier (id.0 - 1) (pieces_in (job_at plan (id.0 - 1)))

abbrev pub output_onto : Plan → List Piece → Output → List Segment → Output
output_onto plan earlier out [] = out
output_onto plan earlier out (s ∷ more) =
    let here = segment_piece plan s.waits.items s.ops.items ∷ earlier in
    let now = with_traps (started_traps plan here s.starts) (with_ops plan s.ops.items (cells_past plan earlier) out) in
    output_onto plan (started_parts plan s.starts ++ here) now more

abbrev pub output_closed : Plan → Draft → Output
output_closed plan d = output_onto plan [] no_output d.segments

abbrev pub output_of : Plan → Draft → Output
output_of plan d = with_ops plan d.ops (cells_closed plan d) (output_closed plan d)
