-- That a piece keeps to its touches.
use Rattle.std.specs.Prelude.{◌≡◌, ℕ, true, false, List, Some}
use Rattle.frame_ast.specs.declared.kernel.Kernel.{Kernel}
use Rattle.frame_ast.specs.Checked.{IsChecked}
use Rattle.kernel_exec.specs.Laws.{StayAlike}
use Rattle.merge_laws.specs.Graph.{Cells}
use Rattle.frame_core.specs.declared.piece.Piece.{Piece}
use Rattle.frame_core.specs.declared.piece.Piece.TheVariants.{OfJob}
use Rattle.frame_core.specs.declared.plan.JobPlan.{JobPlan}
use Rattle.frame_core.specs.declared.plan.Plan.{Plan}
use Rattle.frame_core.specs.declared.touch.Touch.{Touch}
use Rattle.frame_core.specs.Names.{job_at, kernel_of}
use Rattle.frame_core.specs.Touches.{reads_in, writes_in}
use Rattle.frame_core.specs.Effects.{touches, piece_cells}
use Rattle.frame_core.specs.Ordered.{JobFits, IsWellOrderedPlan}

-- What is made of the cells keeps to these touches, from whatever cells.
pub record Frames (ts : List Touch) (f : Cells → Cells) : Type 0 where
  -- a word that isn't written stays
  pub kept : (a : Cells) (w : ℕ) → writes_in ts w ≡ false → f a w ≡ a w
  -- the words that are read decide: cells that agree on them are made alike, wherever they agreed
  pub same : (a b : Cells) → ((w : ℕ) → reads_in ts w ≡ true → b w ≡ a w) → StayAlike a b (f a) (f b)

-- Each piece of a well ordered plan keeps to its touches.
abbrev pub PiecesKeepToTouches : Type 0
PiecesKeepToTouches = (plan : Plan) → IsWellOrderedPlan plan → (x : Piece)
    → Frames (touches plan x) (piece_cells plan x)

-- A piece of a job needs for that no more than that the job fits its kernel, whatever the rest of the plan.
abbrev pub PartsKeepToTouches : Type 0
PartsKeepToTouches = (plan : Plan) (j i : ℕ) (x : JobPlan) (k : Kernel) → job_at plan j ≡ Some x
    → kernel_of plan x ≡ Some k → IsChecked k → JobFits plan x k
    → Frames (touches plan (OfJob j i)) (piece_cells plan (OfJob j i))
