-- A whole plan as the list of its pieces: the graph that the core sees is the graph of the list.
use Rattle.std.specs.Prelude.{ℕ, ◌≡◌, ◌<◌, List, [], ◌∷◌, map, Some}
use Rattle.job_base.specs.declared.JobId.{JobId}
use Rattle.merge_laws.specs.Graph.{IsWellOrdered}
use Rattle.merge_laws.specs.Pieces.{graph_from}
use Rattle.frame_core.specs.declared.piece.Piece.{Piece}
use Rattle.frame_core.specs.declared.piece.Piece.TheVariants.{OfScript, OfJob}
use Rattle.frame_core.specs.declared.plan.Segment.{Segment}
use Rattle.frame_core.specs.declared.plan.Plan.{Plan}
use Rattle.merge_laws.specs.Pieces as made
use Rattle.frame_core.specs.Names.{has_job, waits_in, segment_at}
use Rattle.frame_core.specs.Pieces.{script_order}
use Rattle.frame_core.specs.Touches.{reads_in, writes_in}
use Rattle.frame_core.specs.Effects.{touches, piece_cells}
use Rattle.frame_core.specs.Graphs.{graph_of, cells_at_first}
use Rattle.frame_core.specs.Ordered.{ConflictsLead}
use Rattle.plan_laws.specs.Drafts.{part_piece}

-- a piece of a plan as a piece of a list
abbrev pub made_piece : Plan → Piece → made.Piece
made_piece plan (OfScript k) = record {
  job = 0;
  after = has_job (waits_in (segment_at plan k));
  reads = reads_in (touches plan (OfScript k));
  writes = writes_in (touches plan (OfScript k));
  effect = piece_cells plan (OfScript k);
}
made_piece plan (OfJob j i) = part_piece plan j i

-- a list turned round, on top of another
abbrev pub turned : {A : Type 0} → List A → List A → List A
turned top [] = top
turned top (x ∷ more) = turned (x ∷ top) more

-- all pieces, the last one first
abbrev pub order_back : Plan → List Piece
order_back plan = turned [] (script_order plan)

abbrev pub whole_pieces : Plan → List made.Piece
whole_pieces plan = map (made_piece plan) (order_back plan)

-- segments start jobs that have a number
abbrev pub StartJobs : Plan → Type 0
StartJobs plan = (k : ℕ) (s : Segment) (id : JobId) → segment_at plan k ≡ Some s → s.starts ≡ Some id → 0 < id.0

-- Where the list is well ordered, the plan's conflicts are.
abbrev pub ListsOrderPlans : Type 0
ListsOrderPlans = (plan : Plan)
    → StartJobs plan
    → IsWellOrdered (graph_from (cells_at_first plan) (whole_pieces plan))
    → ConflictsLead (graph_of plan)
