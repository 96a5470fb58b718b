-- What a table holds, name by name and value by value.
use Rattle.std.proofs.Common.{refl, ap, ap₂, ◌≡◌, true, false, Some, None, List, [], ◌∷◌, ◌++◌, ◌∙◌, sym, ℕ, ℤ, ◌<◌, ◌≤◌, ◌+◌, arith, length, append-nil, append_assoc, Option, suc, zero, map, drop, take}
use Rattle.std.specs.List.{slice_set, slice_index_or}
use Rattle.std.specs.Str.{bytes_eq}
use Rattle.std.proofs.lemmas.List.{map-append}
use Rattle.csv.specs.Records.{field_at}
use Rattle.table_in.specs.Numbers.{Text}
use Rattle.table_in.specs.Rows.{Fields, row_fault, or_fault, fault_from}
use Rattle.table_in.specs.Columns.{NamedColumn, empty_column, with_value, column_named, value_of, first_value, columns_from, with_row, with_values}
use Rattle.table_in.specs.Plain.{with_rows}
use Rattle.table_in.specs.declared.columns.Column.{Column}
use Rattle.table_in.specs.declared.TableFault.{TableFault}
use Rattle.table_in.proofs.RowLemmas.{take-field, field_at-none, row_width}

-- ---- what the records say

pub length-columns_from : (names : Fields) (rows : List Fields) → length (columns_from names rows) ≡ length names
length-columns_from [] rows = refl
length-columns_from (n ∷ names) rows = ap suc (length-columns_from names (map (drop 1) rows))

pub columns_from-more : (names : Fields) (rows : List Fields) (fields : Fields) → length fields ≡ length names
    → columns_from names (rows ++ fields ∷ []) ≡ with_row (columns_from names rows) fields
columns_from-more [] rows fields e = refl
columns_from-more (n ∷ names) rows [] e = absurd (omega arith)
columns_from-more (n ∷ names) rows (f ∷ fields) e =
    ap₂ (λ (a : List ℤ) (l : List NamedColumn). record { name = n; values = a } ∷ l) (map-append first_value rows ((f ∷ fields) ∷ []))
    (ap (columns_from names) (map-append (drop 1) rows ((f ∷ fields) ∷ [])) ∙ columns_from-more names (map (drop 1) rows) fields (omega arith))

pub columns_from-name : (names : Fields) (n : Text) → columns_from (names ++ n ∷ []) [] ≡ columns_from names [] ++ empty_column n ∷ []
columns_from-name [] n = refl
columns_from-name (m ∷ names) n = ap (λ (l : List NamedColumn). empty_column m ∷ l) (columns_from-name names n)

pub with_row-nil : (columns : List NamedColumn) → with_row columns [] ≡ columns
with_row-nil [] = refl
with_row-nil (c ∷ columns) = refl

pub length-with_row : (columns : List NamedColumn) (fields : Fields) → length (with_row columns fields) ≡ length columns
length-with_row [] fields = refl
length-with_row (c ∷ columns) [] = refl
length-with_row (c ∷ columns) (f ∷ fields) = ap suc (length-with_row columns fields)

with_row-values : (columns : List NamedColumn) (fields : Fields) → with_row columns fields ≡ with_values columns (map value_of fields)
with_row-values [] fields = refl
with_row-values (c ∷ columns) [] = refl
with_row-values (c ∷ columns) (f ∷ fields) = ap (λ (l : List NamedColumn). with_value c (value_of f) ∷ l) (with_row-values columns fields)

pub with_row-from : (old new : List NamedColumn) (fields : Fields) (values : List ℤ) → new ≡ with_values old values → map value_of fields ≡ values
    → new ≡ with_row old fields
with_row-from old new fields values is held = is ∙ ap (with_values old) (sym held) ∙ sym (with_row-values old fields)

pub with_values-nil : (columns : List NamedColumn) → with_values columns [] ≡ columns
with_values-nil [] = refl
with_values-nil (c ∷ columns) = refl

pub length-with_values : (columns : List NamedColumn) (values : List ℤ) → length (with_values columns values) ≡ length columns
length-with_values [] values = refl
length-with_values (c ∷ columns) [] = refl
length-with_values (c ∷ columns) (v ∷ values) = ap suc (length-with_values columns values)

-- ---- more rows

pub length-with_rows : (columns : List NamedColumn) (rows : List Fields) → length (with_rows columns rows) ≡ length columns
length-with_rows columns [] = refl
length-with_rows columns (r ∷ rows) = length-with_rows (with_row columns r) rows ∙ length-with_row columns r

pub with_rows-append : (columns : List NamedColumn) (xs ys : List Fields) → with_rows columns (xs ++ ys) ≡ with_rows (with_rows columns xs) ys
with_rows-append columns [] ys = refl
with_rows-append columns (x ∷ xs) ys = with_rows-append (with_row columns x) xs ys

pub no_fault : (a b : Option TableFault) → or_fault a b ≡ None → (a ≡ None) × (b ≡ None)
no_fault None b e = (refl, e)
no_fault (Some f) b e = absurd (let bad : Some f ≡ None = e in cc)

-- columns that hold records of their width hold what the records say
pub with_rows-columns : (names : Fields) (before rows : List Fields) (row : ℕ) → fault_from row (length names) rows ≡ None
    → with_rows (columns_from names before) rows ≡ columns_from names (before ++ rows)
with_rows-columns names before [] row sound = ap (columns_from names) (sym (append-nil before))
with_rows-columns names before (r ∷ rows) row sound =
    let parts = no_fault (row_fault row (length names) r) (fault_from (row + 1) (length names) rows) sound in
    ap (λ (l : List NamedColumn). with_rows l rows) (sym (columns_from-more names before r (row_width row (length names) r parts.0)))
    ∙ with_rows-columns names (before ++ r ∷ []) rows (row + 1) parts.1
    ∙ ap (columns_from names) (append_assoc before (r ∷ []) rows)

-- ---- one more name

pub name_step : (held : List NamedColumn) (fields : Fields) (i : ℕ) (f : Text) → held ≡ columns_from (take i fields) [] → field_at fields i ≡ Some f
    → held ++ empty_column f ∷ [] ≡ columns_from (take (i + 1) fields) []
name_step held fields i f is at =
    ap (λ (l : List NamedColumn). l ++ empty_column f ∷ []) is
    ∙ sym (ap (λ l. columns_from l []) (take-field fields i f at) ∙ columns_from-name (take i fields) f)

-- a column with one more value, seen by its name and values
pub pushed : {X : Type 0} (f : X → NamedColumn) (xs : List X) (i : ℕ) (old new : X) (v : ℤ) → i < length xs → old ≡ slice_index_or xs i old
    → f new ≡ with_value (f old) v
    → map f (slice_set xs i new) ≡ slice_set (map f xs) i (with_value (slice_index_or (map f xs) i (empty_column [])) v)
pushed f [] i old new v lt at e = absurd (omega arith)
pushed f (x ∷ xs) zero old new v lt at e = ap (λ (c : NamedColumn). c ∷ map f xs) (e ∙ ap (λ y. with_value (f y) v) at)
pushed f (x ∷ xs) (suc i) old new v lt at e = ap (λ (l : List NamedColumn). f x ∷ l) (pushed f xs i old new v (omega arith) at e)

-- a column with the same name and values in its place
pub kept : {X : Type 0} (f : X → NamedColumn) (xs : List X) (i : ℕ) (old new : X) → i < length xs → old ≡ slice_index_or xs i old → f new ≡ f old
    → map f (slice_set xs i new) ≡ map f xs
kept f [] i old new lt at e = absurd (omega arith)
kept f (x ∷ xs) zero old new lt at e = ap (λ (c : NamedColumn). c ∷ map f xs) (e ∙ ap f at)
kept f (x ∷ xs) (suc i) old new lt at e = ap (λ (l : List NamedColumn). f x ∷ l) (kept f xs i old new (omega arith) at e)

pub within : (fields : Fields) (i : ℕ) → None ≡ field_at fields i → i < length fields → ⊥
within fields i none lt =
    let past : length fields ≤ i = field_at-none fields i (sym none) in
    absurd (omega arith)

-- ---- a look-up

abbrev pub seen : Column → NamedColumn
seen c = record { name = c.name.items; values = c.values.items }

pub column_hit : (name : Text) (columns : List Column) (i : ℕ) (c : Column) → i < length columns → c ≡ slice_index_or columns i c
    → bytes_eq c.name.items name ≡ true
    → column_named name (map seen (drop i columns)) ≡ Some c.values.items
column_hit name [] i c lt at e = absurd (omega arith)
column_hit name (x ∷ columns) zero c lt at e =
    let same : bytes_eq x.name.items name ≡ true = ap (λ (y : Column). bytes_eq y.name.items name) (sym at) ∙ e in
    rw same (ap (λ (y : Column). Some y.values.items) (sym at))
column_hit name (x ∷ columns) (suc i) c lt at e = column_hit name columns i c (omega arith) at e

pub column_miss : (name : Text) (columns : List Column) (i : ℕ) (c : Column) → i < length columns → c ≡ slice_index_or columns i c
    → bytes_eq c.name.items name ≡ false
    → column_named name (map seen (drop (i + 1) columns)) ≡ column_named name (map seen (drop i columns))
column_miss name [] i c lt at e = absurd (omega arith)
column_miss name (x ∷ columns) zero c lt at e =
    let other : bytes_eq x.name.items name ≡ false = ap (λ (y : Column). bytes_eq y.name.items name) (sym at) ∙ e in
    rw other refl
column_miss name (x ∷ columns) (suc i) c lt at e =
    let one_more : suc i + 1 ≡ suc (i + 1) = omega arith in
    ap (λ k. column_named name (map seen (drop k (x ∷ columns)))) one_more ∙ column_miss name columns i c (omega arith) at e

pub seen_at : (columns : List Column) (i : ℕ) (c : Column) → i < length columns → c ≡ slice_index_or columns i c
    → seen c ≡ slice_index_or (map seen columns) i (empty_column [])
seen_at [] i c lt at = absurd (omega arith)
seen_at (x ∷ columns) zero c lt at = ap seen at
seen_at (x ∷ columns) (suc i) c lt at = seen_at columns i c (omega arith) at

pub length-seen : (columns : List Column) → length (map seen columns) ≡ length columns
length-seen [] = refl
length-seen (c ∷ columns) = ap suc (length-seen columns)
