use Rattle.std.proofs.Common.{◌∙◌, map}
use Rattle.table_in.specs.Columns.{HoldsAsked}
use Rattle.table_in.specs.Plain.{HoldsMarked}
use Rattle.table_in.specs.Rows.{rows_in}
use Rattle.table_in.proofs.WholeLemmas.{on_table, holds_asked}
use Rattle.table_in.proofs.reading.read_columns.Goals as goal

pub returns-clause-ok : goal.returns-clause-ok
returns-clause-ok c =
    let source = c.args.source.now in
    let asked = map (λ v. v.items) c.args.asked.now in
    let marks = c.deref.result.now in
    on_table (HoldsMarked marks source) (HoldsAsked asked (rows_in source))
    (λ t h. holds_asked source asked marks c.in_ok-names.names t c.in_ok-names.ensures.ok (c.deref.ensures.value ∙ c.in-Ok.ensures) h)
    c.read_marked.result c.read_marked.ensures.ok
