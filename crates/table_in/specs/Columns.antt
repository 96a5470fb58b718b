-- The columns of a table, and what the records of a text say that they are.
use Rattle.std.specs.Prelude.{◌≡◌, ◌++◌, ℤ, pos, Bool, List, [], ◌∷◌, map, drop, Option, Some, None, if◌then◌else◌, unwrap_or}
use Rattle.std.specs.List.{list_any}
use Rattle.std.specs.Str.{bytes_eq}
use Rattle.table_in.specs.Numbers.{Text, number_of}
use Rattle.table_in.specs.Rows.{Fields, table_fault}

pub record NamedColumn : Type 0 where
  pub name : Text
  pub values : List ℤ

abbrev pub empty_column : Text → NamedColumn
empty_column name = record { name = name; values = [] }

abbrev pub with_value : NamedColumn → ℤ → NamedColumn
with_value c v = record c { values = c.values ++ v ∷ [] }

-- the values of the first column of this name
abbrev pub column_named : Text → List NamedColumn → Option (List ℤ)
column_named name [] = None
column_named name (c ∷ more) = if bytes_eq c.name name then Some c.values else column_named name more

abbrev pub value_of : Text → ℤ
value_of field = unwrap_or (number_of field) (pos 0)

abbrev pub first_value : Fields → ℤ
first_value [] = pos 0
first_value (field ∷ rest) = value_of field

-- a column for each name: what stands at its place in each record
abbrev pub columns_from : Fields → List Fields → List NamedColumn
columns_from [] rows = []
columns_from (name ∷ names) rows =
    record { name = name; values = map first_value rows } ∷ columns_from names (map (drop 1) rows)

abbrev pub columns_in : List Fields → List NamedColumn
columns_in [] = []
columns_in (names ∷ rest) = columns_from names rest

-- the name is one of those that are asked for
abbrev pub is_asked : List Text → Text → Bool
is_asked asked name = list_any (λ a. bytes_eq a name) asked

-- the columns whose names are asked for, in their order
abbrev pub columns_asked : List Text → List NamedColumn → List NamedColumn
columns_asked asked [] = []
columns_asked asked (c ∷ columns) =
    if is_asked asked c.name then c ∷ columns_asked asked columns else columns_asked asked columns

-- the columns with one more record
abbrev pub with_row : List NamedColumn → Fields → List NamedColumn
with_row [] fields = []
with_row (c ∷ columns) [] = c ∷ columns
with_row (c ∷ columns) (field ∷ fields) = with_value c (value_of field) ∷ with_row columns fields

-- the columns with one more value each
abbrev pub with_values : List NamedColumn → List ℤ → List NamedColumn
with_values [] values = []
with_values (c ∷ columns) [] = c ∷ columns
with_values (c ∷ columns) (v ∷ values) = with_value c v ∷ with_values columns values

-- the records have no fault, and the table holds what they do
pub record HoldsRows (rows : List Fields) (table : List NamedColumn) : Type 0 where
  pub sound : table_fault rows ≡ None
  pub columns : table ≡ columns_in rows

-- the records have no fault, and the table holds what they do of the columns that are asked for
pub record HoldsAsked (asked : List Text) (rows : List Fields) (table : List NamedColumn) : Type 0 where
  pub sound : table_fault rows ≡ None
  pub columns : table ≡ columns_asked asked (columns_in rows)
