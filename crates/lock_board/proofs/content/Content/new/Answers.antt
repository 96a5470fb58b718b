use Rattle.std.proofs.Common.{◌≡◌, ◌+◌, rules, length, get_or, ap, subst, ◌∙◌}
use Rattle.std.proofs.lemmas.List.{length-replicate}
use Rattle.frame_core.specs.declared.plan.Plan.{Plan}
use Rattle.frame_core.specs.Know.{piece_count}
use Rattle.frame_core.specs.Names.{job_pieces}
use Rattle.lock_board.specs.declared.state.State.TheVariants.{Closed}
use Rattle.lock_board.specs.Locked.{IsKept, locked}
use Rattle.lock_board.proofs.Knowing.{repeated_at}
use Rattle.lock_board.proofs.Making.{AreNew, new_kept}
use Rattle.lock_board.proofs.content.Content.new.Goals as goal

pub invariant_of-result : goal.invariant_of-result
invariant_of-result g c =
    let e = c.requires.plan in
    let plan = c.args.plan.now in
    let states = c.in_ok-states.states.items in
    let cells = c.in_ok-cells.cells.items in
    let dues = c.in_ok-dues.dues.items in
    let s = c.in_ok-states.ensures.items_if_clones_equal (λ y h. h) in
    let d = c.in_ok-dues.ensures.items_if_clones_equal (λ y h. h) in
    let parts = c.args.layout.now.parts_are in
    let segments : c.len.result ≡ length plan.segments.items = search rules in
    let jobs : c.len-2.result ≡ length plan.jobs.items = search rules in
    let pieces : c.args.layout.now.parts + c.len.result ≡ piece_count g.K.PlanName.plan = ap (λ n. n + c.len.result) parts
    ∙ (ap (λ n. job_pieces g.K.PlanName.plan + n) segments ∙ ap (λ (p : Plan). job_pieces g.K.PlanName.plan + length p.segments.items) e) in
    let new : AreNew plan states cells c.in_ok-rests.rests.items c.in_ok-waits.waits.items dues = record {
      states = λ p. ap (λ l. get_or l p Closed) s ∙ repeated_at (c.args.layout.now.parts + c.len.result) p Closed;
      cells = c.in_ok-cells.ensures.cells;
      rests = c.in_ok-rests.ensures.pieces;
      waits = c.in_ok-waits.ensures.pieces;
      dues = λ j. ap (λ l. get_or l j 0) d ∙ repeated_at c.len-2.result j 0;
    } in
    record {
      named = c.requires.token;
      state_count = ap (λ l. length l) s ∙ (length-replicate _ _ ∙ pieces);
      cell_count = c.in_ok-cells.ensures.size ∙ ap (λ (p : Plan). p.words) e;
      rest_count = c.in_ok-rests.ensures.size ∙ ap (λ (p : Plan). length p.jobs.items) e;
      wait_count = c.in_ok-waits.ensures.size ∙ ap (λ (p : Plan). length p.jobs.items) e;
      due_count = ap (λ l. length l) d ∙ (length-replicate _ _ ∙ (jobs ∙ ap (λ (p : Plan). length p.jobs.items) e));
      kept = ∣ subst (λ p. IsKept p (locked states cells c.in_ok-rests.rests.items c.in_ok-waits.waits.items dues)) e
          (new_kept plan c.requires.well states cells c.in_ok-rests.rests.items c.in_ok-waits.waits.items dues new) ∣₁;
    }
