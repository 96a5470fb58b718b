use Rattle.std.proofs.Common.{◌∙◌, ap, replicate, true}
use Rattle.table_in.specs.Columns.{HoldsRows}
use Rattle.table_in.specs.Plain.{HoldsMarked}
use Rattle.table_in.specs.Rows.{rows_in}
use Rattle.table_in.proofs.WholeLemmas.{on_table, holds_all}
use Rattle.table_in.proofs.reading.read_table.Goals as goal

pub returns-clause-ok : goal.returns-clause-ok
returns-clause-ok c =
    let source = c.args.source.now in
    let marks = c.deref.result.now in
    let all = c.deref.ensures.value ∙ c.in-Ok.ensures.items_if_clones_equal (λ y e. e) ∙ ap (λ n. replicate n true) c.width.ensures in
    on_table (HoldsMarked marks source) (HoldsRows (rows_in source))
    (λ t h. holds_all source marks c.in_ok-names.names t c.in_ok-names.ensures.ok all h) c.read_marked.result c.read_marked.ensures.ok
