-- The room of a pool before and after a run.
use Rattle.std.specs.Prelude.{◌≡◌, ℕ, ◌*◌, ◌<◌, ◌≤◌, List, ◌∷◌, length, map, All, Some}
use Rattle.job_base.specs.declared.limits.TheConstants.{MOST_WORKERS}
use Rattle.frame_core.specs.declared.plan.Plan.{Plan}
use Rattle.frame_core.specs.Know.{Know}
use Rattle.piece_claims.specs.Claims.{AreClaimsOf}
use Rattle.piece_claims.specs.Followers.{AreFollowers}
use Rattle.steal_pool.specs.declared.place.Place.{Place}
use Rattle.steal_pool.specs.declared.room.PoolRoom.{PoolRoom}
use Rattle.steal_pool.specs.Seats.{IsReady, IsFirst}

-- It is made for the plan, and its seats are those of the board of that name: the first seat, which has run no segment,
-- and idle ones.
pub record IsRoomOf {S : Type 0} (home : S → List ℕ) (know : S → Know) (plan : Plan) (name : List ℕ)
    (room : PoolRoom S) : Type 0 where
  pub followers : AreFollowers plan room.shared.followers
  pub claims : AreClaimsOf plan room.shared.claims
  pub first : IsFirst home know name 0 room.first
  pub others : All (IsReady home know name) room.others.items
  pub many : length room.others.items < MOST_WORKERS

-- The place's deque has room for each job of the plan twice: where its worker opens it, and where it takes it up.
abbrev pub HasRoomFor : {S : Type 0} → Plan → Place S → Type 0
HasRoomFor plan place = 2 * length plan.jobs.items ≤ place.tools.queue.capacity

-- It is made for the plan, and its places have these seats, in their order, and deques that have room.
pub record HasSeats {S : Type 0} (plan : Plan) (seats : List S) (room : PoolRoom S) : Type 0 where
  pub followers : AreFollowers plan room.shared.followers
  pub claims : AreClaimsOf plan room.shared.claims
  pub seats_are : room.first.seat ∷ map (λ place. place.seat) room.others.items ≡ map (λ seat. Some seat) seats
  pub first : HasRoomFor plan room.first
  pub others : All (HasRoomFor plan) room.others.items
  pub many : length room.others.items < MOST_WORKERS

-- The first place holds the first seat, which has run all segments, and has no lease, no count owed and no duty.
abbrev pub IsRunRoom : {S : Type 0} → (S → List ℕ) → (S → Know) → Plan → List ℕ → PoolRoom S → Type 0
IsRunRoom home know plan name room = IsFirst home know name (length plan.segments.items) room.first
