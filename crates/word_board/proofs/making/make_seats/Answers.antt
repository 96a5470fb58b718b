use Rattle.std.proofs.Common.{◌≡◌, suc, eqb, ne_eqb, [], ◌∷◌, ◌++◌, length, length-append, sym, ap, subst, ◌∙◌, arith}
use Rattle.frame_core.proofs.Small.{none_some}
use Rattle.word_board.specs.declared.view.View.{View}
use Rattle.word_board.specs.Boards.{IsNewSeat, AreNewSeats, view_of}
use Rattle.word_board.proofs.Dealt.{dealt_more, fresh_is_new}
use Rattle.word_board.proofs.making.make_seats.Goals as goal

pub loop-made-init : goal.loop-made-init
loop-made-init c =
    let none : c.in_ok-all.all.items ≡ [] = c.in_ok-all.ensures.items in
    let size : length c.in_ok-all.all.items ≡ 0 = ap length none in
    record {
      last = subst (λ n. IsNewSeat c.args.board.now (eqb n 0) c.args.first) (sym size) c.requires.first;
      count = omega arith;
      dealt = subst (AreNewSeats c.args.board.now) (sym none) (λ k seat e. absurd (none_some e));
    }

pub split-next-requires : goal.split-next-requires
split-next-requires c = record { home = c.loop-made.invariant.last.home }

pub loop-made-preserved : goal.loop-made-preserved
loop-made-preserved c =
    let I = c.loop-made.invariant in
    let items : c.push.new.self.items ≡ c.loop-made.all.items ++ c.split-next.new.seat ∷ [] = c.in_ok-push.ensures.items in
    let count = I.count in
    let longer = length-append c.loop-made.all.items (c.split-next.new.seat ∷ []) in
    let size : length c.push.new.self.items ≡ suc (length c.loop-made.all.items) = ap length items
    ∙ (let e : length (c.loop-made.all.items ++ c.split-next.new.seat ∷ []) ≡ suc (length c.loop-made.all.items) = omega arith in e) in
    let pushed : IsNewSeat c.args.board.now (eqb (length c.loop-made.all.items) 0) c.split-next.new.seat =
    record { home = c.split-next.ensures.home ∙ I.last.home; view = c.split-next.ensures.view ∙ I.last.view } in
    record {
      last = subst (λ b. IsNewSeat c.args.board.now b c.split-next.result)
          (sym (ap (λ n. eqb n 0) size ∙ ne_eqb (suc (length c.loop-made.all.items)) 0 (λ e. omega arith)))
          (fresh_is_new c.args.board.now c.split-next.result (view_of c.loop-made.last) c.split-next.ensures.other c.split-next.ensures.new
          (ap (λ (v : View). v.plan) I.last.view));
      count = omega arith;
      dealt = subst (AreNewSeats c.args.board.now) (sym items) (dealt_more c.args.board.now c.loop-made.all.items c.split-next.new.seat I.dealt pushed);
    }

pub returns-clause-size : goal.returns-clause-size
returns-clause-size c =
    let count = c.loop-made.invariant.count in
    let items : c.push-2.new.self.items ≡ c.loop-made.all.items ++ c.loop-made.last ∷ [] = c.in_ok-push-2.ensures.items in
    let longer = length-append c.loop-made.all.items (c.loop-made.last ∷ []) in
    let last = c.loop-made-test.false in
    let most = c.loop-made.auto._made-end c.requires.seats in
    ap length items ∙ (let e : length (c.loop-made.all.items ++ c.loop-made.last ∷ []) ≡ c.args.seats = omega arith in e)

pub returns-clause-seats : goal.returns-clause-seats
returns-clause-seats c =
    let items : c.push-2.new.self.items ≡ c.loop-made.all.items ++ c.loop-made.last ∷ [] = c.in_ok-push-2.ensures.items in
    subst (AreNewSeats c.args.board.now) (sym items) (dealt_more c.args.board.now c.loop-made.all.items c.loop-made.last c.loop-made.invariant.dealt
    c.loop-made.invariant.last)
