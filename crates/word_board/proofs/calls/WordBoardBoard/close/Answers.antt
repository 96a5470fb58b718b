use Rattle.std.proofs.Common.{◌≡◌, ℕ, zero, suc, ◌+◌, List, [], ◌∷◌, length, length-set, get_or, get_or-set_same, get_or-set_other, set, ℤ, pos, to_z, of_z, rules, refl, sym, ap, ◌∙◌, arith, w64}
use mathlib.Core.Logic.{dite}
use mathlib.Core.Option.{some, some-injective, some-ne-none}
use native.Mathlib.Decide.{ℕ_discrete}
use lib.ListN.{get_elem?}
use Rattle.std.specs.Int.{cast_signed}
use Rattle.std.specs.Slots.{slots_len, slots_items}
use Rattle.word_board.proofs.Lists.{window_at}
use Rattle.word_board.proofs.Closed.{closed_boards_are_done}
use Rattle.word_board.proofs.Seated.{seat_of}
use Rattle.word_board.proofs.calls.WordBoardBoard.close.Goals as goal

got_at : (l : List ℕ) (i x : ℕ) → get_elem? l i ≡ some x → get_or l i 0 ≡ x
got_at [] i x e = absurd (some-ne-none x (sym e))
got_at (y ∷ ys) zero x e = some-injective y x e
got_at (y ∷ ys) (suc i) x e = got_at ys i x e

pub close_with-closed-requires : goal.close_with-closed-requires
close_with-closed-requires c = (seat_of c.args.self c.args.first c.requires.home).same

pub loop-w-init : goal.loop-w-init
loop-w-init c = record { size = refl; written = λ k lt. absurd (omega arith) }

pub store-requires : goal.store-requires
store-requires c =
    let size = c.loop-w.invariant.size in
    let room = c.requires.room in
    let cells = c.args.self.cells_are in
    let lt = c.loop-w-test.true in
    omega arith

pub loop-w-preserved : goal.loop-w-preserved
loop-w-preserved c =
    let size = c.loop-w.invariant.size in
    let room = c.requires.room in
    let cells = c.args.self.cells_are in
    let lt = c.loop-w-test.true in
    let x : ℤ = to_z w64 (of_z w64 c.cast_signed.result) in
    let same : x ≡ c.cast_signed.result = search rules in
    let put : c.store.new.self ≡ set c.loop-w.into c.loop-w.w x = c.store.ensures in
    record {
      size = ap length put ∙ (length-set c.loop-w.into c.loop-w.w x ∙ size);
      written = λ k low. dite (ℕ_discrete k c.loop-w.w)
          (λ e. (
            c.word.result,
            ap (λ i. get_elem? (slots_items c.close_with-closed.result.words) (1 + i)) e ∙ c.word.ensures,
            ap (λ l. get_or l k (pos 0)) put ∙ (ap (λ i. get_or (set c.loop-w.into c.loop-w.w x) i (pos 0)) e
                ∙ (get_or-set_same c.loop-w.into c.loop-w.w x (pos 0) (omega arith) ∙ (same ∙ c.cast_signed.ensures))),
          ))
          (λ ne. let old = c.loop-w.invariant.written k (omega arith) in
          (old.0, old.1, ap (λ l. get_or l k (pos 0)) put ∙ (get_or-set_other c.loop-w.into c.loop-w.w k x (pos 0) ne ∙ old.2)));
    }

pub free-requires : goal.free-requires
free-requires c = λ k low. let none : slots_len c.close_with-closed.result.slots ≡ 0 = c.close_with-closed.ensures.counts.1 ∙ c.args.self.no_slots in
    absurd (omega arith)

pub returns-clause-room : goal.returns-clause-room
returns-clause-room c = c.loop-w.invariant.size

pub returns-clause-cells : goal.returns-clause-cells
returns-clause-cells c = λ w low.
    let key = c.args.self.table.shared.key in
    let done = c.close_with-closed.ensures.values.2 in
    let s = done.0 in
    let end = closed_boards_are_done key s done.1.0 c.args.first.token.id c.args.first.token.me.0 done.1.1 c.requires.first c.requires.ended w in
    let cells = c.args.self.cells_are in
    let last = c.loop-w-test.false in
    let got = c.loop-w.invariant.written w (omega arith) in
    let word : get_or s.words (1 + w) 0 ≡ got.0 = ap (λ l. get_or l (1 + w) 0) done.2
    ∙ got_at (slots_items c.close_with-closed.result.words) (1 + w) got.0 got.1 in
    got.2 ∙ (ap (cast_signed w64) (sym word) ∙ (sym (ap (cast_signed w64) (window_at s.words 1 key.words w low)) ∙ end))
