use Rattle.std.proofs.Common.{◌≡◌, ◌+◌, ◌<◌, sym, subst, refl, length, arith, to_z, of_z, w64, to_z-of_z, [], set}
use Rattle.table_in.specs.Plain.{RecordAt}
use Rattle.table_in.proofs.FieldLemmas.{Along, field_more, record_ends, length_set}
use Rattle.table_in.proofs.rows.read_record.Goals as goal

pub loop-i-init : goal.loop-i-init
loop-i-init c = record { fields = []; split = refl; plain = refl; numbers = refl; held = refl; ahead = omega arith; within = omega arith }

pub returns-then-ends_record : goal.returns-then-ends_record
returns-then-ends_record c =
    let found = c.in_ok-found.found in
    let size = length_set c.loop-i.i c.loop-i.values (to_z w64 (of_z w64 found.value)) in
    let whole : c.loop-i.i + 1 ≡ length c.loop-i.values = omega (arith, size, c.if-i-values.true) in
    subst (λ v. RecordAt c.args.text.now c.args.from (set c.loop-i.values c.loop-i.i v) found.end) (sym (to_z-of_z c.in_ok-found.ensures.fits))
    (record_ends c.args.text.now c.args.from c.loop-i.at found.end c.loop-i.i c.loop-i.values found.value c.loop-i.invariant c.in_ok-found.ensures.number
    (c.if-ends_record.ensures refl) whole)

pub loop-i-preserved : goal.loop-i-preserved
loop-i-preserved c =
    let found = c.in_ok-found.found in
    let inside : c.loop-i.i < length c.loop-i.values = omega arith in
    subst (λ v. Along c.args.text.now c.args.from (found.end + 1) (c.loop-i.i + 1) (set c.loop-i.values c.loop-i.i v))
    (sym (to_z-of_z c.in_ok-found.ensures.fits))
    (field_more c.args.text.now c.args.from c.loop-i.at found.end c.loop-i.i c.loop-i.values found.value c.loop-i.invariant c.in_ok-found.ensures.number
    c.if-found-text.false c.if-text-found-ne44.false inside)
