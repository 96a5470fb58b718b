use Rattle.std.proofs.Common.{◌≡◌, ◌+◌, ◌∷◌, [], ◌++◌, length, sym, ap, subst, ◌∙◌, arith}
use Rattle.lock_board.specs.Layouts.{AreSpans, AreWithin}
use Rattle.lock_board.specs.Rooms.{joined_to}
use Rattle.lock_board.proofs.Lists.{longer}
use Rattle.lock_board.proofs.Tables.{spans_more, within_more}
use Rattle.lock_board.proofs.laying.list_spans.Goals as goal

pub loop-p-preserved : goal.loop-p-preserved
loop-p-preserved c =
    let I = c.loop-p.invariant in
    let x = c.in_ok-join.field-0 in
    let is = c.in_ok-join.ensures ∙ ap (joined_to []) (c.deref.ensures.value ∙ c.in_ok-touches.ensures) in
    let items : c.push.new.self.items ≡ c.loop-p.all.items ++ x ∷ [] = c.in_ok-push.ensures.items in
    let size = I.size in
    let more = longer c.loop-p.all.items x in
    record {
      size = ap (λ l. length l) items ∙ (more ∙ (let e : Rattle.std.proofs.Common.suc (length c.loop-p.all.items) ≡ c.loop-p.p + 1 = omega arith in e));
      spans = subst (AreSpans c.args.plan.now) (sym items) (spans_more c.args.plan.now c.loop-p.all.items x c.loop-p.p size is I.spans);
      within = subst (AreWithin c.args.plan.now) (sym items) (within_more c.args.plan.now c.requires.well c.loop-p.all.items x c.loop-p.p is I.within);
    }
