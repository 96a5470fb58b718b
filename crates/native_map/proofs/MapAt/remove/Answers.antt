use Rattle.std.proofs.Common.{◌≡◌, arith, to_z, of_z, w64}
use Rattle.std.proofs.lemmas.Int.{ints}
use Rattle.native_map.proofs.Forms.{remove_form, remove_in_held, remove_in_free, remove_nowhere}
use Rattle.native_map.proofs.MapAt.remove.Goals as goal

pub returns-in-Held-clause-words : goal.returns-in-Held-clause-words
returns-in-Held-clause-words g c =
    let n : to_z w64 (of_z w64 c.args.k) ≡ c.args.k = omega (arith, ints) in
    let closed = rw (c.load-count.ensures.cells, c.find.ensures.cells) at c.shift_back.ensures.cells in
    let stored = rw (closed, c.load-count.ensures.value, c.find.ensures.cells) at c.store.ensures.cells in
    remove_in_held c.args.self.now (g.M.Mem.cells c.args.mem.now) c.args.k c.args.k (g.M.Mem.cells c.store.new.self) c.in-Held.p
    (rw n at c.in-Held.ensures.spot) stored

pub returns-in-Free-clause-words : goal.returns-in-Free-clause-words
returns-in-Free-clause-words g c =
    let n : to_z w64 (of_z w64 c.args.k) ≡ c.args.k = omega (arith, ints) in
    remove_in_free c.args.self.now (g.M.Mem.cells c.args.mem.now) c.args.k c.args.k (g.M.Mem.cells c.find.new.mem) c.in-Free.field-0
    (rw n at c.in-Free.ensures.spot) c.find.ensures.cells

pub returns-in-Nowhere-clause-words : goal.returns-in-Nowhere-clause-words
returns-in-Nowhere-clause-words g c =
    let n : to_z w64 (of_z w64 c.args.k) ≡ c.args.k = omega (arith, ints) in
    remove_nowhere c.args.self.now (g.M.Mem.cells c.args.mem.now) c.args.k c.args.k (g.M.Mem.cells c.find.new.mem)
    (rw n at c.in-Nowhere.ensures.spot) c.find.ensures.cells

pub returns-in-Held-clause-form : goal.returns-in-Held-clause-form
returns-in-Held-clause-form g c = remove_form c.args.self.now c.args.k c.requires.fits

pub returns-in-Free-clause-form : goal.returns-in-Free-clause-form
returns-in-Free-clause-form g c = remove_form c.args.self.now c.args.k c.requires.fits

pub returns-in-Nowhere-clause-form : goal.returns-in-Nowhere-clause-form
returns-in-Nowhere-clause-form g c = remove_form c.args.self.now c.args.k c.requires.fits
