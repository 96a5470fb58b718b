-- Laws of rooms.
use Rattle.std.specs.Prelude.{◌≡◌, ℕ, true, false, List, ◌∷◌, All}
use Rattle.frame_core.specs.declared.plan.Plan.{Plan}
use Rattle.frame_core.specs.Know.{Know, new_seat}
use Rattle.steal_pool.specs.declared.room.PoolRoom.{PoolRoom}
use Rattle.steal_pool.specs.Rooms.{HasSeats, IsRoomOf}

-- a seat as its board made it
pub record IsNew {S : Type 0} (home : S → List ℕ) (know : S → Know) (name : List ℕ) (seat : S) : Type 0 where
  pub at_home : home seat ≡ name
  pub knows : know seat ≡ new_seat false

-- A room that is made of a board's seats, as they were made and in their order, is ready for a run on that board.
abbrev pub RoomsAreReady : {S : Type 0} → (S → List ℕ) → (S → Know) → Type 0
RoomsAreReady {S} home know = (plan : Plan) (name : List ℕ) (first : S) (others : List S) (room : PoolRoom S)
    → home first ≡ name → know first ≡ new_seat true → All (IsNew home know name) others
    → HasSeats plan (first ∷ others) room → IsRoomOf home know plan name room
