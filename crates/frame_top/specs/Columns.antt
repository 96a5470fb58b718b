-- Which columns the statements of a script name.
use Rattle.std.specs.Prelude.{List, [], ◌∷◌, ◌++◌}
use Rattle.frame_ast.specs.declared.script.Order.{Order}
use Rattle.frame_ast.specs.declared.script.Order.TheVariants.{Column}
use Rattle.frame_ast.specs.declared.script.Statement.{Statement}
use Rattle.command_words.specs.Words.{Text}

abbrev pub columns_by : Order → List Text
columns_by (Column name column life) = column.items ∷ []
columns_by _ = []

-- the names of their columns, in their order
abbrev pub column_names : List Statement → List Text
column_names [] = []
column_names (x ∷ more) = columns_by x.act ++ column_names more
