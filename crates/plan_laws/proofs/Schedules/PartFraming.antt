-- A piece of a job keeps to its footprint.
use Rattle.std.specs.Prelude.{◌≡◌, ℕ, Some}
use Rattle.frame_ast.specs.declared.kernel.Kernel.{Kernel}
use Rattle.frame_ast.specs.Checked.{IsChecked}
use Rattle.merge_laws.specs.Graph.{Cells}
use Rattle.merge_laws.specs.Pieces.{IsFramed}
use Rattle.frame_core.specs.declared.piece.Piece.TheVariants.{OfJob}
use Rattle.frame_core.specs.declared.plan.JobPlan.{JobPlan}
use Rattle.frame_core.specs.declared.plan.Plan.{Plan}
use Rattle.frame_core.specs.Effects.{touches}
use Rattle.frame_core.specs.Names.{job_at, kernel_of}
use Rattle.frame_core.specs.Ordered.{JobFits}
use Rattle.frame_core.proofs.Framing.{parts_keep_to_touches}
use Rattle.frame_core.proofs.Extents.Touching.{writes_read}
use Rattle.plan_laws.specs.Drafts.{part_piece}

pub part_framed : (plan : Plan) (j : ℕ) (job : JobPlan) (kernel : Kernel) → job_at plan j ≡ Some job → kernel_of plan job ≡ Some kernel → IsChecked kernel
    → JobFits plan job kernel
    → (i : ℕ) (before : Cells) → IsFramed (part_piece plan j i) before
part_framed plan j job kernel has has_kernel checked fits i before =
    let f = parts_keep_to_touches plan j i job kernel has has_kernel checked fits in
    record {
      written = λ cells agree w wr. f.same before cells agree w (agree w (writes_read (touches plan (OfJob j i)) w wr));
      kept = λ cells agree w out. f.kept cells w out;
    }
