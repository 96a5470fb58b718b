use Rattle.std.proofs.Common.{◌≡◌, ◌<◌, ◌+◌, ◌∙◌, ap, sym, length, map, arith, take, set, to_z, of_z, to_z-of_z, FitsSigned, w64}
use Rattle.csv.specs.Records.{fields_of}
use Rattle.table_in.specs.Columns.{value_of}
use Rattle.table_in.proofs.RowLemmas.{row_not_number, numbers-not, numbers-more, take-field}
use Rattle.table_in.proofs.ColumnLemmas.{within}
use Rattle.table_in.proofs.FieldLemmas.{held_more, length_set}
use Rattle.table_in.proofs.fields.read_fields.Goals as goal

pub loop-i-preserved : goal.loop-i-preserved
loop-i-preserved c =
    let fields = fields_of c.args.fields.now in
    let i = c.loop-i.i in
    let field = c.in-Some.field.now in
    let value = c.in-Some-number_of.value in
    let values = c.loop-i.values in
    let at = sym c.in-Some.ensures.value in
    let number = c.in-Some-number_of.ensures.value in
    let fits : FitsSigned w64 value = c.in-Some-number_of.ensures.fits in
    let stored : to_z w64 (of_z w64 value) ≡ value = to_z-of_z fits in
    let lt : i < length values = omega (arith, c.loop-i.invariant.size) in record {
      held = ap (map value_of) (take-field fields i field at)
          ∙ held_more (take i fields) field i values value lt c.loop-i.invariant.held (sym number)
          ∙ ap (λ v. take (i + 1) (set values i v)) (sym stored);
      numbers = numbers-more fields i field value at number c.loop-i.invariant.numbers;
      size = length_set i values (to_z w64 (of_z w64 value)) ∙ c.loop-i.invariant.size;
    }

pub returns-in-None-number_of-clause-err : goal.returns-in-None-number_of-clause-err
returns-in-None-number_of-clause-err c =
    let fields = fields_of c.args.fields.now in
    let same : length fields ≡ length c.args.values.now = omega arith in
    row_not_number c.args.row _ fields same (numbers-not fields c.loop-i.i c.in-Some.field.now
    (sym c.in-Some.ensures.value) c.in-None-number_of.ensures.value)

pub unreachable-requires : goal.unreachable-requires
unreachable-requires c =
    let lt : c.loop-i.i < length (fields_of c.args.fields.now) = omega arith in
    within (fields_of c.args.fields.now) c.loop-i.i c.in-None.ensures.value lt
