use Rattle.std.proofs.Common.{◌≡◌, true, false, sym, ◌∙◌, arith, rules}
use Rattle.native_map.specs.Table.{places, holds}
use Rattle.native_map.proofs.Loops.{shift_stop, shift_more, below_either}
use Rattle.native_map.proofs.MapAt.shift_back.Goals as goal

pub returns-then-not-holds-clause-cells : goal.returns-then-not-holds-clause-cells
returns-then-not-holds-clause-cells g c =
    let at = c.args.self.now in
    let cells = g.M.Mem.cells c.loop.mem in
    let free : holds cells at.start c.loop.j ≡ false = sym c.holds.ensures.holds ∙ search rules in
    let on = rw c.places-t.ensures.places at c.loop.invariant.goes_on in
    let stored = rw (c.holds.ensures.cells, c.flag.ensures) at c.store.ensures.cells in
    stored ∙ sym (shift_stop at cells (places at.cap) c.loop.counter c.loop.gap c.loop.j (omega (arith, c.places-t.ensures.places)) free) ∙ on

pub loop-preserved : goal.loop-preserved
loop-preserved g c =
    let at = c.args.self.now in
    let cells = g.M.Mem.cells c.loop.mem in
    let t = c.places-t.result in
    let held : holds cells at.start c.loop.j ≡ true = sym c.holds.ensures.holds ∙ search rules in
    let moved = rw c.holds.ensures.cells at c.move_back-gap.ensures.cells in
    let gap = rw c.holds.ensures.cells at c.move_back-gap.ensures.gap in
    record {
      gap = rw gap (below_either _ c.loop.gap c.loop.j t c.loop.invariant.gap c.loop.invariant.place);
      place = c.next_place-j-in-loop.ensures.below;
      goes_on = rw (c.next_place-j-in-loop.ensures.next, c.places-t.ensures.places)
          (shift_more at cells (places at.cap) c.loop.counter c.loop.gap c.loop.j (omega (arith, c.places-t.ensures.places)) held
          (g.M.Mem.cells c.move_back-gap.new.mem) moved c.move_back-gap.result gap ∙ rw c.places-t.ensures.places at c.loop.invariant.goes_on);
      readable = c.move_back-gap.ensures.readable ∙ c.holds.ensures.readable ∙ c.loop.invariant.readable;
      writable = c.move_back-gap.ensures.writable ∙ c.holds.ensures.writable ∙ c.loop.invariant.writable;
    }
