use Rattle.std.proofs.Common.{◌∙◌, ap, map}
use Rattle.table_in.specs.Columns.{columns_asked, columns_in}
use Rattle.table_in.specs.Rows.{rows_in}
use Rattle.frame_top.proofs.Naming.{named_alike}
use Rattle.frame_top.proofs.columns.read_for.Goals as goal

pub returns-in-Ok-read_columns-clause-columns : goal.returns-in-Ok-read_columns-clause-columns
returns-in-Ok-read_columns-clause-columns c =
    let asked = map (λ v. v.items) c.deref.result.now in
    named_alike asked (columns_in (rows_in c.args.bytes.now)) c.in-Ok-read_columns.table c.args.script.now.statements.items
    (ap (map (λ v. v.items)) c.deref.ensures.value ∙ c.in-Ok.ensures) c.in-Ok-read_columns.ensures.ok.columns
