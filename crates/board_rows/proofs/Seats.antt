-- The two seats of a new board.
use Rattle.std.proofs.Common.{◌≡◌, refl, sym, ap, ◌∙◌, subst, ℕ, ◌<◌, ◌≤◌, Bool, true, false, List, [], ◌∷◌, length, arith}
use Rattle.std.specs.Prelude.{slice_index_or, remove}
use Rattle.frame_core.specs.declared.plan.Plan.{Plan}
use Rattle.frame_core.specs.Know.{Know, IsFree, MayBegin}
use Rattle.frame_core.specs.Names.{job_pieces}
use Rattle.frame_core.specs.Pieces.{piece_numbered}
use Rattle.frame_core.proofs.Seats.{may_begin}
use Rattle.word_board.specs.declared.board.WordBoard.{WordBoard}
use Rattle.word_board.specs.declared.seat.WordSeat.{WordSeat}
use Rattle.word_board.specs.Boards.{plan_of, know_of, IsNewSeat, AreNewSeats}
use Rattle.frame_rows.proofs.Rooms.{new_knows}

pub is_free : (board : WordBoard) (b : Bool) (seat : WordSeat) → IsNewSeat board b seat → IsFree (know_of seat)
is_free board b seat it =
    let e = new_knows (plan_of board) seat b it.view in
    record { lease = ap (λ k. k.lease) e; owed = ap (λ k. k.owed) e }

-- one taken out after the other
pub two_seats : (board : WordBoard) (seats rest : List WordSeat) (first second : WordSeat) → length seats ≡ 2 → AreNewSeats board seats
    → first ≡ slice_index_or seats 0 first → rest ≡ remove seats 0 → second ≡ slice_index_or rest 0 second
    → IsNewSeat board true first × IsNewSeat board false second
two_seats board [] rest first second e new a r b = absurd (omega (arith, e))
two_seats board (x ∷ []) rest first second e new a r b = absurd (omega (arith, e))
two_seats board (x ∷ y ∷ more) rest first second e new a r b =
    let other : second ≡ y = b ∙ ap (λ ys. slice_index_or ys 0 second) r in
    (subst (IsNewSeat board true) (sym a) (new 0 x refl), subst (IsNewSeat board false) (sym other) (new 1 y refl))

-- any seat may begin a piece of a job
pub parts_may : (plan : Plan) (n : ℕ) (k : Know) → IsFree k → n ≤ job_pieces plan → (p : ℕ) → p < n → MayBegin k (piece_numbered plan p)
parts_may plan n k free le p l = may_begin plan k p (omega (arith, l, le))
