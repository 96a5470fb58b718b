use Rattle.std.proofs.Common.{◌≡◌, ◌∙◌, codes, to_z, of_z, w64, arith}
use Rattle.std.proofs.lemmas.Int.{ints}
use Rattle.std.specs.Fmt.{signed_decimal}
use Rattle.frame_print.proofs.Gathering.{gathers_stops, stops_before}
use Rattle.frame_print.proofs.Listing.{stops_next, going_next, going_closes, cell_next, cells_end}
use Rattle.frame_print.proofs.waiting.Waiting.put_cells.Goals as goal

pub returns-in_err-put_byte-clause-text : goal.returns-in_err-put_byte-clause-text
returns-in_err-put_byte-clause-text g c =
    gathers_stops _ _ _ _ _ _ c.from_residual.ensures.0 (stops_before _ _ _ (codes "[") _ c.in_err-put_byte.ensures.text)

pub returns-in_err-put_number-clause-text : goal.returns-in_err-put_number-clause-text
returns-in_err-put_number-clause-text g c =
    let n : to_z w64 (of_z w64 c.load-n.result) ≡ c.load-n.result = omega (arith, ints) in
    let next = cell_next (g.M.Mem.cells c.args.mem.now) c.args.start c.args.len c.loop-i.i c.loop-i-test.true in
    gathers_stops _ _ _ _ _ _ c.from_residual-in_err-put_number.ensures.0
    (stops_next signed_decimal c.loop-i.i _ _ _ next (codes "]") _ _ _ _ _ c.loop-i.invariant.0 _
    (rw (n, c.load-n.ensures.value, c.loop-i.invariant.1.values) at c.in_err-put_number.ensures.text))

pub loop-i-preserved : goal.loop-i-preserved
loop-i-preserved g c =
    let n : to_z w64 (of_z w64 c.load-n.result) ≡ c.load-n.result = omega (arith, ints) in
    let next = cell_next (g.M.Mem.cells c.args.mem.now) c.args.start c.args.len c.loop-i.i c.loop-i-test.true in
    let same = c.loop-i.invariant.1 in (
      going_next signed_decimal c.loop-i.i _ _ _ next (codes "]") _ _ _ _ _ c.loop-i.invariant.0 _ _
          (rw (n, c.load-n.ensures.value, c.loop-i.invariant.1.values) at c.in_ok-put_number.ensures.text),
      record {
        count = c.in_ok-put_number.ensures.count ∙ same.count;
        values = c.load-n.ensures.cells ∙ same.values;
        may_load = c.load-n.ensures.readable ∙ same.may_load;
        may_store = c.load-n.ensures.writable ∙ same.may_store;
      },
    )

pub returns-clause-text : goal.returns-clause-text
returns-clause-text g c =
    going_closes signed_decimal c.loop-i.i _ (codes "]") _ _ _ _ _ _ _ c.put_byte-2.result
    (cells_end (g.M.Mem.cells c.args.mem.now) c.args.start c.args.len c.loop-i.i c.loop-i-test.false) c.loop-i.invariant.0 c.put_byte-2.ensures.text
