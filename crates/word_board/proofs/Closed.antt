-- The cells of a closed board.
use Rattle.std.proofs.Common.{◌≡◌, ℕ, Bool, cond, refl, sym, ap, ◌∙◌}
use Rattle.merge_laws.specs.Graph.{cells_before}
use Rattle.merge_laws.specs.Rule.{IsOver}
use Rattle.merge_laws.proofs.Ruling.{closed_boards_are_in_script_order}
use Rattle.frame_core.specs.declared.plan.Plan.{Plan}
use Rattle.frame_core.specs.Graphs.{graph_of, jobs_of, cells_after}
use Rattle.frame_core.proofs.Planned.{plans_meet_the_laws}
use Rattle.word_board.specs.Views.{claims}
use Rattle.word_board.specs.Rule.{moment}
use Rattle.word_board.specs.Laws.{ClosedBoardsAreDone}
use Rattle.word_board.proofs.Showing.{claims_at}
use Rattle.frame_core.proofs.Boards.{segments_are}

after_is : (plan : Plan) (w : ℕ) → cells_before (graph_of plan) (graph_of plan).count w ≡ cells_after plan w
unfolding cells_after graph_of
after_is plan w = refl

pub closed_boards_are_done : ClosedBoardsAreDone
closed_boards_are_done plan s H k v at first all w =
    let laws = plans_meet_the_laws plan H.well in
    let over : IsOver (jobs_of plan) (moment plan s) = record {
      place = k;
      first = claims plan v;
      there = claims_at plan s.views k v v at;
      is_first = (ap (λ (b : Bool). cond b 0 1) first, refl);
      all = all ∙ sym (segments_are plan);
    } in
    closed_boards_are_in_script_order (graph_of plan) (jobs_of plan) laws.ordered laws.of (moment plan s) H.ruled over w ∙ after_is plan w
