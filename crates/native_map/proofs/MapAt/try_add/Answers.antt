use Rattle.std.proofs.Common.{◌≡◌, arith, to_z, of_z, w64, Ok, true}
use Rattle.std.proofs.lemmas.Int.{ints}
use Rattle.native_map.proofs.Forms.{try_add_form, try_add_in_free, try_add_nowhere}
use Rattle.native_map.proofs.Effects.{try_from_ok, try_from_err}
use Rattle.native_map.proofs.MapAt.try_add.Goals as goal

pub returns-in-Ok-clause-words : goal.returns-in-Ok-clause-words
returns-in-Ok-clause-words g c =
    let n : to_z w64 (of_z w64 c.args.k) ≡ c.args.k = omega (arith, ints) in
    let n' : to_z w64 (of_z w64 c.args.v) ≡ c.args.v = omega (arith, ints) in
    try_add_in_free c.args.self.now (g.M.Mem.cells c.args.mem.now) c.args.k c.args.v (g.M.Mem.cells c.add_new.new.mem) c.in-Free.p
    (rw n at c.in-Free.ensures.spot) (Ok true)
    (try_from_ok c.args.self.now (g.M.Mem.cells c.args.mem.now) c.in-Free.p c.args.k c.args.v (g.M.Mem.cells c.add_new.new.mem) c.in-Ok.field-0
    (rw (c.find.ensures.cells, n, n') at c.in-Ok.ensures.words))

pub returns-in-Nowhere-clause-words : goal.returns-in-Nowhere-clause-words
returns-in-Nowhere-clause-words g c =
    let n : to_z w64 (of_z w64 c.args.k) ≡ c.args.k = omega (arith, ints) in
    try_add_nowhere c.args.self.now (g.M.Mem.cells c.args.mem.now) c.args.k c.args.v (g.M.Mem.cells c.find.new.mem)
    (rw n at c.in-Nowhere.ensures.spot) c.find.ensures.cells

pub returns-in-Held-clause-form : goal.returns-in-Held-clause-form
returns-in-Held-clause-form g c = try_add_form c.args.self.now c.args.k c.args.v c.requires.fits

pub returns-in-Ok-clause-form : goal.returns-in-Ok-clause-form
returns-in-Ok-clause-form g c = try_add_form c.args.self.now c.args.k c.args.v c.requires.fits

pub returns-in-Err-clause-form : goal.returns-in-Err-clause-form
returns-in-Err-clause-form g c = try_add_form c.args.self.now c.args.k c.args.v c.requires.fits

pub returns-in-Nowhere-clause-form : goal.returns-in-Nowhere-clause-form
returns-in-Nowhere-clause-form g c = try_add_form c.args.self.now c.args.k c.args.v c.requires.fits

pub returns-in-Err-clause-words : goal.returns-in-Err-clause-words
returns-in-Err-clause-words g c =
    let n : to_z w64 (of_z w64 c.args.k) ≡ c.args.k = omega (arith, ints) in
    let n' : to_z w64 (of_z w64 c.args.v) ≡ c.args.v = omega (arith, ints) in
    try_add_in_free c.args.self.now (g.M.Mem.cells c.args.mem.now) c.args.k c.args.v (g.M.Mem.cells c.add_new.new.mem) c.in-Free.p
    (rw n at c.in-Free.ensures.spot) _
    (try_from_err c.args.self.now (g.M.Mem.cells c.args.mem.now) c.in-Free.p c.args.k c.args.v (g.M.Mem.cells c.add_new.new.mem) c.in-Err.trap
    (rw (c.find.ensures.cells, n, n') at c.in-Err.ensures.words))
