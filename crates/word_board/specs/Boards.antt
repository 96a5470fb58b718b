-- Boards and their seats, as the calls of a board speak of them.
use Rattle.std.specs.Prelude.{◌≡◌, ℕ, Bool, nat_eq, List, slice_get, Some}
use Rattle.frame_core.specs.declared.plan.Plan.{Plan}
use Rattle.frame_core.specs.Know.{Know}
use Rattle.word_board.specs.declared.board.WordBoard.{WordBoard}
use Rattle.word_board.specs.declared.seat.WordSeat.{WordSeat}
use Rattle.word_board.specs.declared.view.View.{View}
use Rattle.word_board.specs.Naming.{board_name}
use Rattle.word_board.specs.Views.{know, new_view}

-- the plan of a board, which is the key of its table
abbrev pub plan_of : WordBoard → Plan
plan_of board = board.table.shared.key

abbrev pub view_of : WordSeat → View
view_of seat = seat.token.me.0

abbrev pub know_of : WordSeat → Know
know_of seat = know (view_of seat)

-- the name of a board, and the name of the board of a seat
abbrev pub name_of : WordBoard → List ℕ
name_of board = board_name board.table.shared.table_id (plan_of board)

abbrev pub home_of : WordSeat → List ℕ
home_of seat = board_name seat.token.table_id (view_of seat).plan

-- NEW SEATS

-- The seat is the board's, took no step, and holds nothing.
pub record IsNewSeat (board : WordBoard) (first : Bool) (seat : WordSeat) : Type 0 where
  pub home : home_of seat ≡ name_of board
  pub view : view_of seat ≡ new_view (plan_of board) first

-- All are new seats, and the first of them is the first seat.
abbrev pub AreNewSeats : WordBoard → List WordSeat → Type 0
AreNewSeats board seats = (k : ℕ) (seat : WordSeat) → slice_get seats k ≡ Some seat → IsNewSeat board (nat_eq k 0) seat
