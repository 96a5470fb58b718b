-- What each kind of step tells of the view before and after it, where the step found n in its word.
use Rattle.std.specs.Prelude.{◌≡◌, ℕ, suc, true, nat_eq, Some}
use Rattle.std.specs.Int.{cast_signed}
use mir.Syntax.{w64}
use Rattle.atomic_table.specs.Table.{Me, Step}
use Rattle.merge_laws.specs.Countdowns.{begun_state, open_state}
use Rattle.frame_core.specs.Pieces.{piece_numbered}
use Rattle.frame_core.specs.Know.{reads}
use Rattle.word_board.specs.declared.view.Held.{Held}
use Rattle.word_board.specs.declared.view.Kind.TheVariants.{Load}
use Rattle.word_board.specs.declared.view.View.{View}
use Rattle.word_board.specs.Words.{cell_word, state_word, rest_word, wait_word}
use Rattle.word_board.specs.Views.{local_cells, stepped, stored_view, begun_view, ended_view, counted_view, released_view, opened_view, seen_view}

abbrev pub Loads : Step ℕ → Me ℕ View → ℕ → Me ℕ View → Type 0
Loads t me n me' = (me' ≡ (stepped me.0 Load t.word n, me.1))
    × ((h : Held) (w : ℕ) → me.0.lease ≡ Some h → cell_word w ≡ t.word → reads me.0.plan h.piece w ≡ true
    → cast_signed w64 n ≡ local_cells me.0.plan h w)

abbrev pub Stores : Step ℕ → Me ℕ View → ℕ → Me ℕ View → Type 0
Stores t me n me' = (w : ℕ) → cell_word w ≡ t.word → me' ≡ (stored_view me.0 w (cast_signed w64 n) t.word n, me.1)

abbrev pub Begins : Step ℕ → Me ℕ View → ℕ → Me ℕ View → Type 0
Begins t me n me' = (p : ℕ) → state_word me.0.plan p ≡ t.word
    → me' ≡ (begun_view me.0 p (nat_eq n open_state) t.word n, me.1)

abbrev pub Ends : Step ℕ → Me ℕ View → ℕ → Me ℕ View → Type 0
Ends t me n me' = ((p : ℕ) → state_word me.0.plan p ≡ t.word
    → me' ≡ (ended_view me.0 (piece_numbered me.0.plan p) t.word n, me.1)) × (n ≡ begun_state)

abbrev pub Counts : Step ℕ → Me ℕ View → ℕ → Me ℕ View → Type 0
Counts t me n me' = (j : ℕ) → rest_word me.0.plan j ≡ t.word
    → me' ≡ (counted_view me.0 (suc j) (nat_eq n 1) t.word n, me.1)

abbrev pub Releases : Step ℕ → Me ℕ View → ℕ → Me ℕ View → Type 0
Releases t me n me' = (j : ℕ) → wait_word me.0.plan j ≡ t.word
    → me' ≡ (released_view me.0 (suc j) (nat_eq n 1) t.word n, me.1)

abbrev pub Opens : Step ℕ → Me ℕ View → ℕ → Me ℕ View → Type 0
Opens t me n me' = (p : ℕ) → state_word me.0.plan p ≡ t.word
    → me' ≡ (opened_view me.0 p (piece_numbered me.0.plan p) t.word n, me.1)

abbrev pub Sees : Step ℕ → Me ℕ View → ℕ → Me ℕ View → Type 0
Sees t me n me' = (j : ℕ) → rest_word me.0.plan j ≡ t.word
    → me' ≡ (seen_view me.0 (suc j) (nat_eq n 0) t.word n, me.1)
