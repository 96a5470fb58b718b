-- The pieces of a job that is visited.
use Rattle.std.proofs.Common.{◌≡◌, ℕ, ◌<◌, length, Some, sym, subst, ◌∙◌}
use Rattle.frame_core.specs.declared.piece.Piece.TheVariants.{OfJob}
use Rattle.frame_core.specs.declared.plan.JobPlan.{JobPlan}
use Rattle.frame_core.specs.declared.plan.Plan.{Plan}
use Rattle.frame_core.specs.Names.{job_at, pieces_of}
use Rattle.frame_core.specs.Pieces.{IsPieceOf}
use Rattle.frame_core.proofs.Small.{some_is, get_below}

pub below_pieces : (plan : Plan) (j i : ℕ) (x : JobPlan) → job_at plan j ≡ Some x → IsPieceOf plan (OfJob j i) → i < pieces_of x
below_pieces plan j i x here (y, got, less) = subst (λ (z : JobPlan). i < pieces_of z) (some_is (sym got ∙ here)) less

-- a job that has a piece is one of the plan
pub job_below : (plan : Plan) (j i : ℕ) → IsPieceOf plan (OfJob j i) → j < length plan.jobs.items
job_below plan j i (y, got, less) = get_below plan.jobs.items j y got
