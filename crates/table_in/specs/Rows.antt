-- The records of a text, and the first fault in them.
use Rattle.std.specs.Prelude.{◌+◌, ◌==◌, ℕ, Bool, not, List, [], ◌∷◌, length, Option, Some, None, is_some, if◌then◌else◌}
use Rattle.std.specs.List.{list_all}
use Rattle.csv.specs.Reading.{default_config, records, strip_bom}
use Rattle.table_in.specs.Numbers.{Text, number_of}
use Rattle.table_in.specs.declared.TableFault.{TableFault}
use Rattle.table_in.specs.declared.TableFault.TheVariants.{Empty, Unequal, NotNumber}

abbrev pub Fields : Type 0
Fields = List Text

-- the records of a text, the first of them like the others
abbrev pub rows_in : Text → List Fields
rows_in source = records default_config (strip_bom source)

abbrev pub all_numbers : Fields → Bool
all_numbers = list_all (λ f. is_some (number_of f))

-- the fault of one record
abbrev pub row_fault : ℕ → ℕ → Fields → Option TableFault
row_fault row width fields = if not (length fields == width) then Some (Unequal row)
    else if not (all_numbers fields) then Some (NotNumber row) else None

-- one fault, and where there is none the next
abbrev pub or_fault : Option TableFault → Option TableFault → Option TableFault
or_fault (Some fault) next = Some fault
or_fault None next = next

-- the first fault of the records from this number on
abbrev pub fault_from : ℕ → ℕ → List Fields → Option TableFault
fault_from row width [] = None
fault_from row width (fields ∷ rest) = or_fault (row_fault row width fields) (fault_from (row + 1) width rest)

abbrev pub table_fault : List Fields → Option TableFault
table_fault [] = Some Empty
table_fault (names ∷ rest) = fault_from 2 (length names) rest
