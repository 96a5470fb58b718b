-- Columns that a script asks for and a table lacks.
use Rattle.std.specs.Prelude.{ℕ, suc, Bool, true, false, if◌then◌else◌, ℤ, List, [], ◌∷◌, Option, None, Some}
use Rattle.frame_ast.specs.declared.script.Order.{Order}
use Rattle.frame_ast.specs.declared.script.Order.TheVariants.{Column}
use Rattle.frame_ast.specs.declared.script.Statement.{Statement}
use Rattle.frame_ast.specs.Orders.{Table}

abbrev pub is_none : Option (List ℤ) → Bool
is_none None = true
is_none (Some xs) = false

-- The statement makes an array of a column, and the table has no column of that name.
abbrev pub lacks_column : Table → Order → Bool
lacks_column table (Column name column life) = is_none (table column.items)
lacks_column table _ = false

-- the place of the first such statement, of statements that begin at place n
abbrev pub missing_from : Table → ℕ → List Statement → Option ℕ
missing_from table n [] = None
missing_from table n (x ∷ more) = if lacks_column table x.act then Some n else missing_from table (suc n) more
