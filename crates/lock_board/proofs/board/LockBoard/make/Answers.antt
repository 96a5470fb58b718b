use Rattle.std.proofs.Common.{◌≡◌, suc, eqb, length, ap, subst, sym, ◌∙◌, arith, Some}
use Rattle.std.specs.Prelude.{slice_get}
use Rattle.frame_core.specs.Know.{new_seat}
use Rattle.lock_board.specs.Rooms.{HasRoom}
use Rattle.lock_board.specs.Seats.{know_of}
use Rattle.lock_board.proofs.Lists.{longer, all_more}
use Rattle.lock_board.proofs.board.LockBoard.make.Goals as goal

pub invariant_of-push-clause-room : goal.invariant_of-push-clause-room
invariant_of-push-clause-room g c = subst (HasRoom g.K.PlanName.plan) (sym c.in_ok-held.ensures.room) c.in_ok-layout.layout.room_is

pub loop-number-preserved : goal.loop-number-preserved
loop-number-preserved g c =
    let all = c.loop-number.all.items in
    let n = c.loop-number.number in
    let inv = c.loop-number.invariant in
    let knows = subst (λ p. know_of p c.in_ok-held.held ≡ new_seat (eqb n 0)) c.requires.plan c.in_ok-held.ensures.know in
    let there = subst (λ k. know_of g.K.PlanName.plan c.in_ok-held.held ≡ new_seat (eqb k 0)) (sym inv.size) knows in
    record {
      size = ap (λ l. length l) c.in_ok-push.ensures.items ∙ (longer all _ ∙ (ap suc inv.size ∙ omega arith));
      seats = λ k seat e. all_more (λ i s. know_of g.K.PlanName.plan s.held ≡ new_seat (eqb i 0)) all _ inv.seats there k seat
          (subst (λ l. slice_get l k ≡ Some seat) c.in_ok-push.ensures.items e);
    }
