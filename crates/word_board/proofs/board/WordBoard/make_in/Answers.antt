use Rattle.std.proofs.Common.{◌≡◌, ℕ, List, [], sym, subst, rules}
use Rattle.atomic_table.specs.Table.{opening}
use Rattle.frame_core.proofs.Extents.Within.{reads_stay_within}
use Rattle.word_board.specs.Seats.{ReadsWithin}
use Rattle.word_board.specs.Rule.{Holds}
use Rattle.word_board.specs.Views.{opening_view}
use Rattle.word_board.proofs.Starting.{new_words_are_ruled}
use Rattle.word_board.proofs.board.WordBoard.make_in.Goals as goal

pub of_words-requires : goal.of_words-requires
of_words-requires c = subst (λ (ws : List ℕ). Holds c.args.plan.now (opening {S = ℕ} ws [] (opening_view c.args.plan.now))) (sym c.as_slice.ensures.value)
    (new_words_are_ruled c.args.plan.now c.requires.well c.in_ok-words.words.items c.in_ok-words.ensures.words)

pub invariant_of-board : goal.invariant_of-board
invariant_of-board c =
    let key : c.in_ok-table.table.shared.key ≡ c.args.plan.now = c.in_ok-table.ensures.5 in
    record {
      within = subst ReadsWithin (sym key) (reads_stay_within c.args.plan.now c.requires.well);
      size = search rules;
      no_slots = search rules;
      fits = search rules;
      cells_are = search rules;
      states_are = search rules;
      rests_are = search rules;
      waits_are = search rules;
      jobs_are = search rules;
      job_count = search rules;
    }
