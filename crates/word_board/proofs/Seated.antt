-- What a seat of a board has for each step.
use Rattle.std.proofs.Common.{◌≡◌, ℕ, zero, suc, ◌+◌, ◌-◌, ◌<◌, Bool, true, List, [], ◌∷◌, length, get_or, slice_index, refl, sym, ap, subst, ◌∙◌, arith, Some, None}
use Rattle.frame_core.specs.declared.plan.Plan.{Plan}
use Rattle.frame_core.specs.Names.{job_pieces}
use Rattle.frame_core.specs.Pieces.{piece_numbered}
use Rattle.frame_core.specs.Know.{piece_count, due_after, released, opened, ended, ended_piece}
use Rattle.frame_core.proofs.Small.{get_below}
use Rattle.frame_core.proofs.Numbering.{Names, part, segment, names}
use Rattle.frame_core.proofs.Numbered.{pieces_within}
use Rattle.word_board.specs.declared.board.WordBoard.{WordBoard}
use Rattle.word_board.specs.declared.seat.WordSeat.{WordSeat}
use Rattle.word_board.specs.declared.view.View.{View}
use Rattle.word_board.specs.Boards.{name_of, home_of}
use Rattle.word_board.specs.Seats.{IsSeatOf, job_number}
use Rattle.word_board.specs.Views.{know, leased_piece, counted_view, released_view, opened_view, ended_view, dues_on}
use Rattle.word_board.proofs.Naming.{same_board}
use Rattle.word_board.proofs.Leased.{held_of}
use Rattle.word_board.proofs.Knowing.{know_released, know_opened, know_ended, dues_followed}

module _ (b : WordBoard) (s : WordSeat) (home : home_of s ≡ name_of b) where
  abbrev key : Plan
  key = b.table.shared.key

  abbrev v : View
  v = s.token.me.0

  pub seat_of : IsSeatOf b.table.shared.table_id key s.token
  seat_of = let e = same_board s.token.table_id b.table.shared.table_id v.plan key home in record { same = e.0; plan_is = e.1; size = b.size }

  -- the piece that the seat keeps is the leased one
  pub leased_is : (p : ℕ) → leased_piece v.lease ≡ Some p → (s.piece ≡ p) × (p < piece_count key)
  leased_is p e =
      let h = held_of v.lease p e in
      let kept = s.leased h.0 h.1 in
      let same : s.piece ≡ p = sym kept.0 ∙ h.2 in
      (same, subst (λ (x : Plan). p < piece_count x) seat_of.plan_is (subst (λ n. n < piece_count v.plan) same kept.1))

  -- the job of the count that the seat owes, by its place
  pub record IsOwed (j : ℕ) : Type 0 where
    pub place : ℕ
    pub number : j ≡ suc place
    pub below : place < length key.jobs.items
    pub piece : s.piece < job_pieces key
    pub found : slice_index b.jobs.items s.piece ≡ j

  by_names : (j : ℕ) → 0 < j → job_number (piece_numbered key s.piece) ≡ j → Names key.jobs.items 0 s.piece → IsOwed j
  by_names j low e (part d m x h lt at is) =
      let within = pieces_within key.jobs.items d x h in
      let below : s.piece < job_pieces key = omega arith in
      let z : suc (0 + d) ≡ suc d = omega arith in
      record {
        place = d;
        number = sym e ∙ (ap job_number is ∙ z);
        below = get_below key.jobs.items d x h;
        piece = below;
        found = b.jobs_are s.piece below ∙ e;
      }
  by_names j low e (segment k at is) = let none : 0 ≡ j = sym (ap job_number is) ∙ e in absurd (omega arith)

  pub owed_is : (j : ℕ) → v.owed ≡ Some j → IsOwed j
  owed_is j e =
      let kept = s.owed j e in
      by_names j kept.0 (subst (λ (x : Plan). job_number (piece_numbered x s.piece) ≡ j) seat_of.plan_is kept.1) (names key.jobs.items 0 s.piece)

  pub counted_is : (j : ℕ) (word n : ℕ) → know (counted_view v j true word n) ≡
      record (know v) { owed = None; dues = λ d. dues_on v.duties d + due_after key j d }
  counted_is j word n = λ y. record (know v) {
    owed = None;
    dues = λ d. (dues_followed v.plan j v.duties d
        ∙ ap (λ (x : Plan). dues_on v.duties d + due_after x j d) seat_of.plan_is) y;
  }

  pub counted_step : (new : View) (i : ℕ) (r t : Bool) (w x : ℕ) → new ≡ counted_view v i r w new.found → r ≡ t → w ≡ x → new ≡ counted_view v i t x new.found
  counted_step new i r t w x e answer word = e ∙ (ap (λ y. counted_view v i y w new.found) answer ∙ ap (λ y. counted_view v i t y new.found) word)

  pub released_is : (j : ℕ) (r : Bool) (word n : ℕ) → 0 < j → 0 < dues_on v.duties j → know (released_view v (suc (j - 1)) r word n) ≡ released key (know v) j r
  released_is j r word n low due =
      let same : suc (j - 1) ≡ j = omega arith in
      subst (λ i. know (released_view v i r word n) ≡ released key (know v) j r) (sym same)
      (subst (λ (x : Plan). know (released_view v j r word n) ≡ released x (know v) j r) seat_of.plan_is (know_released v j r word n due))

  pub opened_is : (p word n : ℕ) → know (opened_view v p (piece_numbered key p) word n) ≡ opened key (know v) p
  opened_is p word n = know_opened v p (piece_numbered key p) word n

  pub ended_is : (p word n : ℕ) → know (ended_view v (piece_numbered key p) word n) ≡ ended key (know v) p
  ended_is p word n = subst (λ (x : Plan). know (ended_view v (piece_numbered key p) word n) ≡ ended_piece x (know v) (piece_numbered key p)) seat_of.plan_is
      (know_ended v (piece_numbered key p) word n)

pub same_default : (l : List ℕ) (i c d : ℕ) → i < length l → get_or l i c ≡ get_or l i d
same_default [] i c d lt = absurd (omega arith)
same_default (x ∷ xs) zero c d lt = refl
same_default (x ∷ xs) (suc i) c d lt = same_default xs i c d (omega arith)
