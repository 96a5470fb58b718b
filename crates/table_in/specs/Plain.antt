-- Records of plain fields, as they stand in a text: no mark of `csv`'s is in a field, so a record is its split at
-- commas, up to the end of its line.
use Rattle.std.specs.Prelude.{◌≡◌, ◌+◌, ◌<◌, ◌≤◌, ◌==◌, ◌||◌, ◌++◌, ◌⊎◌, ℕ, ℤ, pos, Bool, true, false, not, List, [], ◌∷◌, length, map, drop, Option, Some, None, if◌then◌else◌, nat_lt, nat_le, neg_ℤ, slice_index}
use Rattle.std.specs.Char.{is_ascii_digit}
use Rattle.std.specs.List.{list_all, list_any}
use Rattle.csv.specs.Machine.{Read, next_record, is_end}
use Rattle.csv.specs.Reading.{default_config, records, strip_bom}
use Rattle.csv.specs.declared.parser.State.{State}
use Rattle.csv.specs.declared.parser.State.TheVariants as st
use Rattle.csv.specs.declared.parser.Action.{Action}
use Rattle.table_in.specs.Numbers.{Text, number_of, is_space, magnitude, limit}
use Rattle.table_in.specs.Rows.{Fields, all_numbers, fault_from, rows_in, table_fault}
use Rattle.table_in.specs.Columns.{NamedColumn, value_of, is_asked, with_row, columns_from, columns_in}
use Rattle.table_in.specs.declared.names.Place.{Place}
use Rattle.table_in.specs.declared.names.Place.TheVariants as place

-- ---- bytes

-- a line feed or a carriage return
abbrev pub is_line_end : ℕ → Bool
is_line_end c = (c == 10) || (c == 13)

-- a comma, a quote or the end of a line: what `csv` doesn't take for a byte of a field
abbrev pub is_mark : ℕ → Bool
is_mark c = (c == 44) || ((c == 34) || is_line_end c)

-- some bytes, and no mark among them
abbrev pub is_plain : Text → Bool
is_plain [] = false
is_plain (c ∷ rest) = not (list_any is_mark (c ∷ rest))

-- fields, each with a comma after it
abbrev pub with_commas : Fields → Text
with_commas [] = []
with_commas (field ∷ fields) = field ++ 44 ∷ with_commas fields

-- a line ends at this place, or the text does
abbrev pub EndsLine : Text → ℕ → Type 0
EndsLine text at = (length text ≤ at) ⊎ (is_line_end (slice_index text at) ≡ true)

-- ---- numbers

-- the bytes between two places are spaces
pub record SpacesAt (text : Text) (from end : ℕ) : Type 0 where
  pub spaces : Text
  pub split : drop from text ≡ spaces ++ drop end text
  pub all : list_all is_space spaces ≡ true
  pub ahead : from ≤ end
  pub within : end ≤ length text

-- the bytes between two places are the digits of a number
pub record DigitsAt (text : Text) (from : ℕ) (number end : ℕ) : Type 0 where
  pub digits : Text
  pub split : drop from text ≡ digits ++ drop end text
  pub all : list_all is_ascii_digit digits ≡ true
  pub value : number ≡ magnitude digits
  pub count : from + length digits ≡ end
  pub within : end ≤ length text

-- the number of a magnitude, with or without a `-` before it
abbrev pub number_by : Bool → ℕ → Option ℤ
number_by true n = if nat_le n limit then Some (neg_ℤ (pos n)) else None
number_by false n = if nat_lt n limit then Some (pos n) else None

-- the bytes between two places are a plain field, which holds this number
pub record NumberAt (text : Text) (from : ℕ) (value : ℤ) (end : ℕ) : Type 0 where
  pub field : Text
  pub split : drop from text ≡ field ++ drop end text
  pub plain : is_plain field ≡ true
  pub number : number_of field ≡ Some value
  pub ahead : from < end
  pub within : end ≤ length text

-- ---- records

-- the records of a text from a place on
abbrev pub rows_after : Text → ℕ → List Fields
rows_after text at = records default_config (drop at text)

-- the next record after a place holds these numbers, and ends at a later one
pub record RecordAt (text : Text) (from : ℕ) (values : List ℤ) (end : ℕ) : Type 0 where
  pub fields : Fields
  pub next : rows_after text from ≡ fields ∷ rows_after text end
  pub numbers : all_numbers fields ≡ true
  pub held : map value_of fields ≡ values
  pub ahead : from < end
  pub ends : EndsLine text end
  pub within : end ≤ length text

-- of a list what stands at the marked places
abbrev pub marked : {A : Type 0} → List Bool → List A → List A
marked [] xs = []
marked (mark ∷ marks) [] = []
marked (mark ∷ marks) (x ∷ xs) = if mark then x ∷ marked marks xs else marked marks xs

-- the columns whose names are asked for are marked
abbrev pub marks_of : List Text → List NamedColumn → List Bool
marks_of asked columns = map (λ c. is_asked asked c.name) columns

-- there is a column for each mark that is set
abbrev pub IsMarked : List Bool → List NamedColumn → Type 0
IsMarked marks columns = length (marked marks marks) ≡ length columns

-- the columns with more records
abbrev pub with_rows : List NamedColumn → List Fields → List NamedColumn
with_rows columns [] = columns
with_rows columns (fields ∷ rest) = with_rows (with_row columns fields) rest

-- the records between two places have no fault, and the columns hold what is marked of them; `row` is the number of the
-- next one
pub record RowsAt (text : Text) (from : ℕ) (marks : List Bool) (old new : List NamedColumn) (at row : ℕ) : Type 0 where
  pub rows : List Fields
  pub next : rows_after text from ≡ rows ++ rows_after text at
  pub sound : fault_from 2 (length marks) rows ≡ None
  pub held : new ≡ with_rows old (map (marked marks) rows)
  pub count : row ≡ 2 + length rows
  pub few : row ≤ 2 + at
  pub ends : EndsLine text at
  pub within : at ≤ length text

-- these records from a number on have no fault, and the columns hold what is marked of them
pub record AddsRows (first : ℕ) (marks : List Bool) (old new : List NamedColumn) (rows : List Fields) : Type 0 where
  pub sound : fault_from first (length marks) rows ≡ None
  pub held : new ≡ with_rows old (map (marked marks) rows)

-- ---- the first record, which may stand in quotes

-- the state of `csv`'s machine at a place
abbrev pub state_at : Place → State
state_at place.Record = st.StartRecord
state_at place.Field = st.StartField
state_at place.Plain = st.InField
state_at place.Quoted = st.InQuoted
state_at place.Closed = st.AfterQuote

-- what the machine does at a byte: it goes to the state of this place, or the byte ends a line and with it the record
abbrev pub Follows : ℕ → State × Action → Option Place → Type 0
Follows c step (Some after) = (is_end step.1 ≡ false) × (step.0 ≡ state_at after)
Follows c step None = (is_end step.1 ≡ true) × (is_line_end c ≡ true)

-- a text's first record ends at this place
pub record FirstEnds (text : Text) (end : ℕ) : Type 0 where
  pub next : (p : Read) → next_record default_config st.StartRecord [] [] text ≡ Some p
      → records default_config text ≡ p.0 ∷ rows_after text end
  pub ends : EndsLine text end
  pub within : end ≤ length text

-- the first record of a text has these fields
abbrev pub BeginsWith : Text → Fields → Type 0
BeginsWith text names = (s : State) × (rest : Text)
    × (next_record default_config st.StartRecord [] [] text ≡ Some (names, s, rest))

-- the columns have the names of a text's first record, and no value yet
abbrev pub AreNamed : Text → List NamedColumn → Type 0
AreNamed source columns = (names : Fields) × BeginsWith (strip_bom source) names × (columns ≡ columns_from names [])

-- the records of a text have no fault, and the table holds what is marked of their columns
pub record HoldsMarked (marks : List Bool) (source : Text) (table : List NamedColumn) : Type 0 where
  pub sound : table_fault (rows_in source) ≡ None
  pub columns : table ≡ marked marks (columns_in (rows_in source))
