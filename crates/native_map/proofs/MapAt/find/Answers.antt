use Rattle.std.proofs.Common.{◌≡◌, true, false, refl, sym, ◌∙◌, arith, rules, to_z, of_z, w64}
use Rattle.std.proofs.lemmas.Int.{ints}
use Rattle.std.specs.Ordering.{int_eq}
use Rattle.native_map.specs.Table.{holds, key_at, stops}
use Rattle.native_map.proofs.Loops.{begins, goes_by, stops_at, probe_more, probe_stop, spot_held}
use Rattle.native_map.proofs.MapAt.find.Goals as goal

pub loop-init : goal.loop-init
loop-init g c = let n : to_z w64 (of_z w64 c.args.k) ≡ c.args.k = omega (arith, ints) in record {
  within = c.home-p.ensures.below;
  goes_on = rw n (begins c.args.self.now (g.M.Mem.cells c.args.mem.now) c.args.k c.places-t.result c.home-p.result c.places-t.ensures.places
      (rw n at c.home-p.ensures.home));
  cells = refl;
  readable = refl;
  writable = refl;
}

pub returns-then-has_at-clause-spot : goal.returns-then-has_at-clause-spot
returns-then-has_at-clause-spot g c =
    let n : to_z w64 (of_z w64 c.args.k) ≡ c.args.k = omega (arith, ints) in
    let cells = g.M.Mem.cells c.args.mem.now in
    let start = c.args.self.now.start in
    let p = c.loop.p in
    let at_key = rw (c.holds.ensures.cells, c.loop.invariant.cells, n) at (sym c.has_at.ensures.same) in
    let same : int_eq (key_at cells start p) c.args.k ≡ true = at_key ∙ c.if-has_at.true in
    let held : holds cells start p ≡ true = rw c.loop.invariant.cells at (sym c.holds.ensures.holds) ∙ search rules in
    let on = rw n at c.loop.invariant.goes_on in
    spot_held c.args.self.now cells c.args.k p held (sym on ∙ probe_stop (stops cells start c.args.k) c.places-t.result c.places-t.result c.loop.counter p
    (search rules) (stops_at cells start p c.args.k same))

pub loop-preserved : goal.loop-preserved
loop-preserved g c =
    let n : to_z w64 (of_z w64 c.args.k) ≡ c.args.k = omega (arith, ints) in
    let cells = g.M.Mem.cells c.args.mem.now in
    let start = c.args.self.now.start in
    let p = c.loop.p in
    let at_key = rw (c.holds.ensures.cells, c.loop.invariant.cells, n) at (sym c.has_at.ensures.same) in
    let other : int_eq (key_at cells start p) c.args.k ≡ false = at_key ∙ c.if-has_at.false in
    let held : holds cells start p ≡ true = rw c.loop.invariant.cells at (sym c.holds.ensures.holds) ∙ search rules in
    let on = rw n at c.loop.invariant.goes_on in
    record {
      within = c.next_place-p.ensures.below;
      goes_on = rw (n, c.next_place-p.ensures.next) (probe_more (stops cells start c.args.k) c.places-t.result c.places-t.result c.loop.counter p _
          (search rules) (goes_by cells start p c.args.k held other) on);
      cells = c.has_at.ensures.cells ∙ c.holds.ensures.cells ∙ c.loop.invariant.cells;
      readable = c.has_at.ensures.readable ∙ c.holds.ensures.readable ∙ c.loop.invariant.readable;
      writable = c.has_at.ensures.writable ∙ c.holds.ensures.writable ∙ c.loop.invariant.writable;
    }
