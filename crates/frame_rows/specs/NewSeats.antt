-- Seats as their board made them.
use Rattle.std.specs.Prelude.{◌≡◌, ℕ, nat_eq, List, slice_get, Some}
use Rattle.frame_core.specs.Know.{Know, new_seat}

-- All are seats of the board of that name, they hold nothing, and the first of them is the first seat.
abbrev pub AreNewSeats : {S : Type 0} → (S → List ℕ) → (S → Know) → List ℕ → List S → Type 0
AreNewSeats {S} home know name seats = (k : ℕ) (seat : S) → slice_get seats k ≡ Some seat
    → (home seat ≡ name) × (know seat ≡ new_seat (nat_eq k 0))
