use Rattle.std.proofs.Common.{◌∙◌, codes}
use Rattle.frame_ast.specs.Texts.{entry_text}
use Rattle.frame_print.proofs.Gathering.{gathers_stops, stops_before, joins_as, stops_as}
use Rattle.frame_print.proofs.Listing.{stops_comma, stops_item, going_item, going_closes}
use Rattle.frame_print.proofs.Words.{entry_is, entry_next, entries_end}
use Rattle.frame_print.proofs.waiting.Waiting.put_entries.Goals as goal

pub returns-in_err-put_byte-clause-text : goal.returns-in_err-put_byte-clause-text
returns-in_err-put_byte-clause-text g c =
    λ es s. gathers_stops _ _ _ _ _ _ c.from_residual.ensures.0 (stops_before _ _ _ (codes "[") _ c.in_err-put_byte.ensures.text)

pub returns-in_err-put_comma-clause-text : goal.returns-in_err-put_comma-clause-text
returns-in_err-put_comma-clause-text g c =
    λ es s.
    gathers_stops _ _ _ _ _ _ c.from_residual-in_err-put_comma.ensures.0
    (stops_comma entry_text c.loop-k.k _ _ _ (entry_next c.args.at.now _ es c.loop-k.k s c.loop-k-test.true) (codes "]") _ _ _ _ _
    (c.loop-k.invariant.0 es s) _ c.in_err-put_comma.ensures.text)

pub returns-in_err-put_items-clause-text : goal.returns-in_err-put_items-clause-text
returns-in_err-put_items-clause-text g c =
    λ es s.
    gathers_stops _ _ _ _ _ _ c.from_residual-in_err-put_items.ensures.0
    (stops_item entry_text c.loop-k.k _ _ _ (entry_next c.args.at.now _ es c.loop-k.k s c.loop-k-test.true) (codes "]") _ _ _ _ _
    (c.loop-k.invariant.0 es s) _ _ c.in_ok-put_comma.ensures.text _
    (stops_as _ _ _ _ _ (entry_is c.args.at.now _ _ es c.loop-k.k s c.loop-k-test.true c.loop-k.invariant.1.values) c.in_err-put_items.ensures.text))

pub loop-k-preserved : goal.loop-k-preserved
loop-k-preserved g c =
    let same = c.loop-k.invariant.1 in (
      λ es s.
          going_item entry_text c.loop-k.k _ _ _ (entry_next c.args.at.now _ es c.loop-k.k s c.loop-k-test.true) (codes "]") _ _ _ _ _
          (c.loop-k.invariant.0 es s) _ _ c.in_ok-put_comma.ensures.text _ _
          (joins_as _ _ _ _ _ _ (entry_is c.args.at.now _ _ es c.loop-k.k s c.loop-k-test.true c.loop-k.invariant.1.values) c.in_ok-put_items.ensures.text),
      record {
        count = c.in_ok-put_items.ensures.count ∙ c.in_ok-put_comma.ensures.count ∙ same.count;
        values = c.in_ok-put_items.ensures.cells ∙ same.values;
        may_load = c.in_ok-put_items.ensures.readable ∙ same.may_load;
        may_store = c.in_ok-put_items.ensures.writable ∙ same.may_store;
      },
    )

pub returns-clause-text : goal.returns-clause-text
returns-clause-text g c =
    λ es s.
    going_closes entry_text c.loop-k.k _ (codes "]") _ _ _ _ _ _ _ c.put_byte-2.result
    (entries_end c.args.at.now _ es c.loop-k.k s c.loop-k-test.false) (c.loop-k.invariant.0 es s) c.put_byte-2.ensures.text
