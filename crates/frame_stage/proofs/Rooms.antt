-- The places of a room that is made of a word board's seats.
use Rattle.std.proofs.Common.{◌≡◌, refl, ap, subst, ℕ, zero, suc, ◌+◌, ◌<◌, ◌≤◌, true, false, List, [], ◌∷◌, length, get_or, Some, arith}
use Rattle.std.specs.Prelude.{slice_get}
use Rattle.std.proofs.lemmas.Bool.{ne_eqb}
use Rattle.std.proofs.lemmas.List.{length-map}
use Rattle.frame_core.specs.declared.plan.Plan.{Plan}
use Rattle.frame_core.specs.Know.{new_seat}
use Rattle.steal_pool.specs.declared.room.PoolRoom.{PoolRoom}
use Rattle.steal_pool.specs.Laws.{RoomsAreReady}
use Rattle.steal_pool.specs.Rooms.{HasSeats, IsRoomOf}
use Rattle.word_board.specs.declared.board.WordBoard.{WordBoard}
use Rattle.word_board.specs.declared.seat.WordSeat.{WordSeat}
use Rattle.word_board.specs.Boards.{plan_of, home_of, know_of, name_of, view_of, IsNewSeat, AreNewSeats}
use Rattle.word_board.specs.Views.{know, new_view}

at_get : {A : Type 0} (xs : List A) (k : ℕ) (d : A) → k < length xs → slice_get xs k ≡ Some (get_or xs k d)
at_get [] k d l = absurd (omega (arith, l))
at_get (x ∷ xs) zero d l = refl
at_get (x ∷ xs) (suc k) d l = at_get xs k d (omega (arith, l))

new_knows : (plan : Plan) (seat : WordSeat) (b : _) → view_of seat ≡ new_view plan b → know_of seat ≡ new_seat b
new_knows plan seat b e = ap know e

-- seats as they were made and in their order
pub made_ready : RoomsAreReady home_of know_of → (plan : Plan) (board : WordBoard) (n : ℕ) (seats : List WordSeat) (room : PoolRoom WordSeat) → length seats ≡ n
    → 1 ≤ n → AreNewSeats board seats → HasSeats plan seats room → IsRoomOf home_of know_of plan (name_of board) room
made_ready rooms_are_ready plan board n [] room e some new has = absurd (omega (arith, e, some))
made_ready rooms_are_ready plan board n (first ∷ others) room e some new has =
    let one : IsNewSeat board true first = new 0 first refl in
    rooms_are_ready plan (name_of board) first others room one.home (new_knows (plan_of board) first true one.view)
    (λ k d l. let it : IsNewSeat board false (get_or others k d) = subst (λ b. IsNewSeat board b (get_or others k d)) (ne_eqb (suc k) 0 (omega arith))
    (new (suc k) (get_or others k d) (at_get others k d l)) in
    record { at_home = it.home; knows = new_knows (plan_of board) (get_or others k d) false it.view })
    has

-- a place for each seat but the first
pub as_many : (plan : Plan) (seats : List WordSeat) (room : PoolRoom WordSeat) (n m : ℕ) → HasSeats plan seats room → length seats ≡ n → n ≡ m + 1
    → length room.others.items ≡ m
as_many plan seats room n m has count is =
    let same = ap length has.seats_are in
    let others = length-map room.others.items (λ place. place.seat) in
    let all = length-map seats (λ seat. Some seat) in
    omega (arith, same, others, all, count, is)
