use Rattle.std.proofs.Common.{◌≡◌, arith, to_z, of_z, w64}
use Rattle.std.proofs.lemmas.Int.{ints}
use Rattle.native_map.proofs.Forms.{put_form, put_in_held, put_in_free, put_nowhere}
use Rattle.native_map.proofs.MapAt.put.Goals as goal

pub returns-in-Held-clause-words : goal.returns-in-Held-clause-words
returns-in-Held-clause-words g c =
    let n : to_z w64 (of_z w64 c.args.k) ≡ c.args.k = omega (arith, ints) in
    let n' : to_z w64 (of_z w64 c.args.v) ≡ c.args.v = omega (arith, ints) in
    put_in_held c.args.self.now (g.M.Mem.cells c.args.mem.now) c.args.k c.args.v (g.M.Mem.cells c.store.new.self) c.in-Held.p (rw n at c.in-Held.ensures.spot)
    (rw (c.find.ensures.cells, c.value.ensures, n') at c.store.ensures.cells)

pub returns-in-Free-clause-words : goal.returns-in-Free-clause-words
returns-in-Free-clause-words g c =
    let n : to_z w64 (of_z w64 c.args.k) ≡ c.args.k = omega (arith, ints) in
    let n' : to_z w64 (of_z w64 c.args.v) ≡ c.args.v = omega (arith, ints) in
    put_in_free c.args.self.now (g.M.Mem.cells c.args.mem.now) c.args.k c.args.v (g.M.Mem.cells c.add_new.new.mem) c.in-Free.p
    (rw n at c.in-Free.ensures.spot) c.add_new.result
    (rw (c.find.ensures.cells, n, n') at c.add_new.ensures.words)

pub returns-in-Nowhere-clause-words : goal.returns-in-Nowhere-clause-words
returns-in-Nowhere-clause-words g c =
    let n : to_z w64 (of_z w64 c.args.k) ≡ c.args.k = omega (arith, ints) in
    put_nowhere c.args.self.now (g.M.Mem.cells c.args.mem.now) c.args.k c.args.v (g.M.Mem.cells c.find.new.mem)
    (rw n at c.in-Nowhere.ensures.spot) c.find.ensures.cells

pub returns-in-Held-clause-form : goal.returns-in-Held-clause-form
returns-in-Held-clause-form g c = put_form c.args.self.now c.args.k c.args.v c.requires.fits

pub returns-in-Free-clause-form : goal.returns-in-Free-clause-form
returns-in-Free-clause-form g c = put_form c.args.self.now c.args.k c.args.v c.requires.fits

pub returns-in-Nowhere-clause-form : goal.returns-in-Nowhere-clause-form
returns-in-Nowhere-clause-form g c = put_form c.args.self.now c.args.k c.args.v c.requires.fits
