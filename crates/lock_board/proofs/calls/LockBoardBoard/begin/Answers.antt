use Rattle.std.proofs.Common.{◌≡◌, length, sym, ap, ◌∙◌}
use Rattle.std.specs.Vec.{with_items}
use Rattle.std.proofs.lemmas.List.{with_items_is}
use Rattle.job_base.specs.Cells.{cells_of}
use Rattle.frame_core.specs.Know.{begun}
use Rattle.lock_board.specs.Rooms.{place_of}
use Rattle.lock_board.specs.Seats.{know_of}
use Rattle.lock_board.proofs.Knowing.{know_begun}
use Rattle.lock_board.proofs.calls.LockBoardBoard.begin.Goals as goal

pub returns-then-begun-clause-know : goal.returns-then-begun-clause-know
returns-then-begun-clause-know g c =
    let plan = g.K.PlanName.plan in
    let h = c.args.seat.now.held in
    let new = c.begin-begun.new.room in
    let is : (with_items h.room new).items ≡ new = with_items_is h.room new
    (c.begin-begun.auto.room ∙ (ap (λ l. length l) c.deref_mut-2.ensures.value ∙ sym h.room.ok.0)) in
    know_begun plan h.owed h.dues.items h.rights.items h.seen.items h.first h.ended h.opened h.lease h.room.items (with_items h.room new).items c.args.p
    (λ w r. ap (λ l. cells_of l (place_of plan c.args.p.0 w)) is ∙ c.begin-begun.ensures.room c.if-begun.true w r)
    ∙ ap (λ b. begun plan (know_of plan h) c.args.p.0 b) (sym c.if-begun.true)
