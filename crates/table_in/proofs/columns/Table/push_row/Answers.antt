use Rattle.std.proofs.Common.{◌∙◌, ap}
use Rattle.csv.specs.Records.{fields_of}
use Rattle.table_in.specs.Columns.{value_of}
use Rattle.table_in.specs.Plain.{marked}
use Rattle.table_in.proofs.ColumnLemmas.{with_row-from}
use Rattle.table_in.proofs.MarkLemmas.{marked-map}
use Rattle.table_in.proofs.columns.Table.push_row.Goals as goal

pub returns-in-Ok-push_marked-clause-values : goal.returns-in-Ok-push_marked-clause-values
returns-in-Ok-push_marked-clause-values c =
    let marks = c.args.marks.now in
    let fields = fields_of c.args.fields.now in
    with_row-from c.args.self.now c.push_marked.new.self (marked marks fields) (marked marks c.read_fields.new.values) c.in-Ok-push_marked.ensures
    (marked-map value_of marks fields ∙ ap (marked marks) c.in-Ok.ensures.values)
