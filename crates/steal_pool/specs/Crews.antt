-- What the workers of a run share.
use Rattle.std.specs.Prelude.{◌≡◌}
use Rattle.frame_core.specs.declared.plan.Plan.{Plan}
use Rattle.frame_core.specs.Ordered.{IsWellOrderedPlan}
use Rattle.piece_claims.specs.Claims.{AreClaimsOf}
use Rattle.piece_claims.specs.Followers.{AreFollowers}
use Rattle.steal_pool.specs.declared.crew.Shared.{Shared}

-- The plan is that of the board and well ordered, and what the workers share is made for it.
pub record IsCrewOf (plan of_board : Plan) (shared : Shared) : Type 0 where
  pub plan_is : plan ≡ of_board
  pub well : IsWellOrderedPlan plan
  pub followers : AreFollowers plan shared.followers
  pub claims : AreClaimsOf plan shared.claims
