use Rattle.std.proofs.Common.{◌≡◌, ◌<◌, length, length-set, sym, ap, subst, ◌∙◌}
use Rattle.std.proofs.Math.Logic.{∥∥₁_map}
use Rattle.lock_board.specs.declared.state.State.TheVariants.{Closed, Open}
use Rattle.lock_board.specs.States.{state_of, is_closed}
use Rattle.lock_board.proofs.Reading.{read, when_closed}
use Rattle.lock_board.proofs.Opening.{opened_as}
use Rattle.lock_board.proofs.content.Content.open_piece.Goals as goal

pub invariant_of-self : goal.invariant_of-self
invariant_of-self g c =
    let plan = g.K.PlanName.plan in
    let m = c.args.self.now in
    let p = c.args.p in
    let low : p < length m.states.items = subst (λ n. p < n) (sym m.state_count) c.requires.piece in
    let at : state_of m.states.items p ≡ c.index.result.now = read m.states.items p c.index.result.now Closed low c.index.ensures in
    let is : state_of m.states.items p ≡ Closed = when_closed (state_of m.states.items p)
    (ap is_closed at ∙ (sym c.is_closed.ensures ∙ c.if-not-is_closed.false)) in
    record {
      named = m.named;
      state_count = length-set m.states.items p Open ∙ m.state_count;
      cell_count = m.cell_count;
      rest_count = m.rest_count;
      wait_count = m.wait_count;
      due_count = m.due_count;
      kept = ∥∥₁_map m.kept (λ C. opened_as plan m.states.items m.cells.items m.rests.items m.waits.items m.dues.items C p c.requires.piece m.state_count is
          (c.may_open.ensures c.if-not-may_open.false));
    }
