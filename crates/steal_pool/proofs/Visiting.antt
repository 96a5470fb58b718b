-- The job of pieces that are given.
use Rattle.std.proofs.Common.{ℕ, ◌+◌, ◌<◌, length}
use Rattle.frame_core.specs.declared.piece.Piece.TheVariants.{OfJob}
use Rattle.frame_core.specs.declared.plan.Plan.{Plan}
use Rattle.frame_core.specs.Pieces.{IsPieceOf}
use Rattle.frame_core.proofs.Small.{get_below}

pub job_below : (plan : Plan) (j place count : ℕ) → 0 < count → ((k : ℕ) → k < count → IsPieceOf plan (OfJob j (place + k))) → j < length plan.jobs.items
job_below plan j place count some there = let (x, got, less) = there 0 some in get_below plan.jobs.items j x got
