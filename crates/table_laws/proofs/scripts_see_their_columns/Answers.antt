use Rattle.table_laws.proofs.Columns.{scripts_see_their_columns}
use Rattle.table_laws.proofs.scripts_see_their_columns.Goals as goal

pub returns : goal.returns
returns c = scripts_see_their_columns
