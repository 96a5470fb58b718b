-- Seats of a new board.
use Rattle.std.proofs.Common.{◌≡◌, ℕ, zero, suc, ◌+◌, ⊎_elim, false, eqb, List, [], ◌∷◌, ◌++◌, length, ap, subst, ◌∙◌, arith, Some}
use Rattle.std.specs.Prelude.{slice_get}
use Rattle.frame_core.proofs.Small.{some_is, none_some, get_either}
use Rattle.word_board.specs.declared.board.WordBoard.{WordBoard}
use Rattle.word_board.specs.declared.seat.WordSeat.{WordSeat}
use Rattle.word_board.specs.declared.view.View.{View}
use Rattle.word_board.specs.Boards.{IsNewSeat, AreNewSeats, plan_of, view_of, name_of, home_of}
use Rattle.word_board.specs.Views.{fresh_view, new_view}

pub dealt_more : (b : WordBoard) (all : List WordSeat) (x : WordSeat) → AreNewSeats b all → IsNewSeat b (eqb (length all) 0) x → AreNewSeats b (all ++ x ∷ [])
dealt_more b all x old new k seat e = ⊎_elim
    (λ t. old k seat t.1)
    (λ t. last t.0 t.1 t.2)
    (get_either all (x ∷ []) k seat e)
  where
    last : (i : ℕ) → k ≡ length all + i → slice_get (x ∷ []) i ≡ Some seat → IsNewSeat b (eqb k 0) seat
    last zero at is = let same : length all ≡ k = omega arith in subst (λ s. IsNewSeat b (eqb k 0) s) (some_is is)
        (subst (λ n. IsNewSeat b (eqb n 0) x) same new)
    last (suc i) at is = absurd (none_some is)

pub fresh_is_new : (b : WordBoard) (s : WordSeat) (v : View) → home_of s ≡ name_of b → view_of s ≡ fresh_view v → v.plan ≡ plan_of b → IsNewSeat b false s
fresh_is_new b s v home is same = record { home = home; view = is ∙ ap (λ p. new_view p false) same }
