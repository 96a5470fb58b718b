-- The columns of a table that was read, as a script's meaning asks for them.
use Rattle.std.specs.Prelude.{List}
use Rattle.frame_ast.specs.Orders.{Table}
use Rattle.table_in.specs.Columns.{NamedColumn, column_named}

abbrev pub columns_of : List NamedColumn → Table
columns_of columns name = column_named name columns
