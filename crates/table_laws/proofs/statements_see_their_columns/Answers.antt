use Rattle.table_laws.proofs.Columns.{statements_see_their_columns}
use Rattle.table_laws.proofs.statements_see_their_columns.Goals as goal

pub returns : goal.returns
returns c = statements_see_their_columns
