-- The records of a whole text: the names, those of plain numbers, and the rest.
use Rattle.std.proofs.Common.{refl, ap, ap₂, ◌≡◌, true, false, cond, Some, None, List, [], ◌∷◌, ◌++◌, ◌∙◌, sym, ℕ, ◌<◌, ◌≤◌, ◌+◌, ◌-◌, arith, length, length-append, append_assoc, drop, take, subst, inl, inr, get_or, ℤ, map, eqb, suc, Bool, replicate, Result, Ok, Err, IfOk}
use Rattle.std.proofs.lemmas.Bool.{or_cases, eqb-true, cases_lt}
use Rattle.std.proofs.lemmas.List.{drop_more, drop_all, map-append, take_rest}
use Rattle.csv.specs.Reading.{default_config, records_from, records_next, strip_bom, is_bom}
use Rattle.csv.specs.declared.parser.State.TheVariants as st
use Rattle.table_in.specs.Numbers.{Text}
use Rattle.table_in.specs.Rows.{Fields, rows_in, or_fault, fault_from, table_fault}
use Rattle.table_in.specs.Columns.{NamedColumn, value_of, columns_asked, columns_from, columns_in, with_row, with_values, HoldsAsked, HoldsRows}
use Rattle.table_in.specs.Plain.{is_line_end, rows_after, marked, marks_of, with_rows, AreNamed, EndsLine, HoldsMarked, RecordAt, RowsAt, AddsRows, FirstEnds, BeginsWith}
use Rattle.table_in.specs.declared.TableFault.{TableFault}
use Rattle.table_in.proofs.RowLemmas.{sound-more, row_sound, fault_from-append}
use Rattle.table_in.proofs.ColumnLemmas.{with_row-from, with_rows-append, with_rows-columns, length-columns_from}
use Rattle.table_in.proofs.MarkLemmas.{marked-map, marked-rows, marked_all, marked_asked, marked_rows-more}

pub rows_begin : (text : Text) (from : ℕ) (marks : List Bool) (t : List NamedColumn) → EndsLine text from → from ≤ length text
    → RowsAt text from marks t t from 2
rows_begin text from marks t ends within = record {
  rows = [];
  next = refl;
  sound = refl;
  held = refl;
  count = refl;
  few = omega arith;
  ends = ends;
  within = within;
}

length-map : (fields : Fields) → length (map value_of fields) ≡ length fields
length-map [] = refl
length-map (f ∷ fields) = ap suc (length-map fields)

pub rows_more : (text : Text) (from : ℕ) (marks : List Bool) (old t u : List NamedColumn) (at row start end : ℕ) (values : List ℤ)
    → RowsAt text from marks old t at row
    → rows_after text at ≡ rows_after text start → at ≤ start → RecordAt text start values end → u ≡ with_values t (marked marks values)
    → length values ≡ length marks → RowsAt text from marks old u end (row + 1)
rows_more text from marks old t u at row start end values h skip ahead r new wide =
    let fields = r.fields in
    let width : length fields ≡ length marks = sym (length-map fields) ∙ ap length r.held ∙ wide in
    let count : row ≡ 2 + length h.rows = h.count in
    let few = h.few in
    let further = r.ahead in record {
      rows = h.rows ++ fields ∷ [];
      next = h.next ∙ ap (λ (l : List Fields). h.rows ++ l) (skip ∙ r.next) ∙ sym (append_assoc h.rows (fields ∷ []) (rows_after text end));
      sound = sound-more 2 (length marks) h.rows fields row h.sound count (row_sound row (length marks) fields width r.numbers);
      held = with_row-from t u (marked marks fields) (marked marks values) new (marked-map value_of marks fields ∙ ap (marked marks) r.held)
          ∙ ap (λ l. with_row l (marked marks fields)) h.held ∙ sym (marked_rows-more marks old h.rows fields);
      count = omega (arith, h.count, length-append h.rows (fields ∷ []));
      few = omega arith;
      ends = r.ends;
      within = r.within;
    }

-- a text that begins with the end of a line has no byte-order mark
no_mark : (c : ℕ) (rest : Text) → is_line_end c ≡ true → strip_bom (c ∷ rest) ≡ c ∷ rest
unfolding strip_bom
no_mark c [] e = refl
no_mark c (b ∷ []) e = refl
no_mark c (b ∷ d ∷ rest) e = elim (or_cases (eqb c 10) (eqb c 13) e) [
  | inl feed ↦ let is : c ≡ 10 = eqb-true c 10 feed in rw is refl
  | inr return ↦ let is : c ≡ 13 = eqb-true c 13 return in rw is refl
]

none_stripped : strip_bom [] ≡ []
unfolding strip_bom
none_stripped = refl

pub rest_rows : (text : Text) (at : ℕ) → EndsLine text at → rows_in (drop at text) ≡ rows_after text at
rest_rows text at ends = ap (Rattle.csv.specs.Reading.records Rattle.csv.specs.Reading.default_config) (elim (cases_lt at (length text)) [
  | inl lt ↦ elim ends [
    | inl past ↦ absurd (omega arith)
    | inr line ↦
        let more = drop_more text at 0 lt in
        ap strip_bom more ∙ no_mark (get_or text at 0) (drop (at + 1) text) line ∙ sym more
  ]
  | inr past ↦ let none : drop at text ≡ [] = drop_all at text past in ap strip_bom none ∙ none_stripped ∙ sym none
])

-- the first record of a text are its names
begins_rows : (source : Text) (names : Fields) → BeginsWith (strip_bom source) names → (rest : List Fields) × (rows_in source ≡ names ∷ rest)
unfolding records_from
begins_rows source names begins =
    let one_more : length (strip_bom source) + 1 ≡ suc (length (strip_bom source)) = omega arith in (
      records_from default_config (length (strip_bom source)) begins.0 begins.1,
      ap (λ n. records_from default_config n st.StartRecord (strip_bom source)) one_more
          ∙ ap (records_next (records_from default_config (length (strip_bom source)))) begins.2,
    )

-- the names, the records that were read in one pass, and the rest
all_rows : (source : Text) (names : Fields) (end : ℕ) (marks : List Bool) (old t : List NamedColumn) (at row : ℕ) → BeginsWith (strip_bom source) names
    → FirstEnds (strip_bom source) end → (h : RowsAt (strip_bom source) end marks old t at row)
    → rows_in source ≡ names ∷ (h.rows ++ rows_in (drop at (strip_bom source)))
all_rows source names end marks old t at row begins first h =
    first.next (names, begins.0, begins.1) begins.2
    ∙ ap (λ (l : List Fields). names ∷ l) (h.next ∙ ap (λ (l : List Fields). h.rows ++ l) (sym (rest_rows (strip_bom source) at h.ends)))

-- the faults of all records are those of the rest
pub whole_fault : (source : Text) (names : Fields) (end : ℕ) (marks : List Bool) (old t : List NamedColumn) (at row : ℕ)
    → BeginsWith (strip_bom source) names → FirstEnds (strip_bom source) end → length marks ≡ length names
    → RowsAt (strip_bom source) end marks old t at row
    → table_fault (rows_in source) ≡ fault_from row (length marks) (rows_in (drop at (strip_bom source)))
whole_fault source names end marks old t at row begins first wide h =
    let more = rows_in (drop at (strip_bom source)) in
    ap table_fault (all_rows source names end marks old t at row begins first h)
    ∙ ap (λ n. fault_from 2 n (h.rows ++ more)) (sym wide)
    ∙ fault_from-append 2 (length marks) h.rows more
    ∙ ap (λ o. or_fault o (fault_from (2 + length h.rows) (length marks) more)) h.sound
    ∙ ap (λ r. fault_from r (length marks) more) (sym h.count)

pub whole_table : (source : Text) (names : Fields) (end : ℕ) (marks : List Bool) (columns old t u : List NamedColumn) (at row : ℕ)
    → BeginsWith (strip_bom source) names → FirstEnds (strip_bom source) end → columns ≡ columns_from names [] → length marks ≡ length columns
    → old ≡ marked marks columns → RowsAt (strip_bom source) end marks old t at row
    → AddsRows row marks t u (rows_in (drop at (strip_bom source))) → HoldsMarked marks source u
whole_table source names end marks columns old t u at row begins first named wide only h adds =
    let more = rows_in (drop at (strip_bom source)) in
    let all = all_rows source names end marks old t at row begins first h in
    let count : length columns ≡ length names = ap length named ∙ length-columns_from names [] in
    let sound : table_fault (rows_in source) ≡ None = whole_fault source names end marks old t at row begins first (wide ∙ count) h ∙ adds.sound in
    let faultless : fault_from 2 (length names) (h.rows ++ more) ≡ None = sym (ap table_fault all) ∙ sound in
    let same : fault_from 2 (length (columns_from names [])) (h.rows ++ more) ≡ None =
    ap (λ n. fault_from 2 n (h.rows ++ more)) (length-columns_from names []) ∙ faultless in record {
      sound = sound;
      columns = adds.held ∙ ap (λ l. with_rows l (map (marked marks) more)) h.held
          ∙ sym (with_rows-append old (map (marked marks) h.rows) (map (marked marks) more))
          ∙ ap (with_rows old) (sym (map-append (marked marks) h.rows more))
          ∙ ap (λ l. with_rows l (map (marked marks) (h.rows ++ more))) (only ∙ ap (marked marks) named)
          ∙ marked-rows marks (columns_from names []) (h.rows ++ more) 2 same
          ∙ ap (marked marks) (with_rows-columns names [] (h.rows ++ more) 2 faultless ∙ sym (ap columns_in all));
    }

-- the same of the text that the functions have
pub table_of : (source text : Text) (names : Fields) (end : ℕ) (marks : List Bool) (columns old t u : List NamedColumn) (at row : ℕ)
    → text ≡ strip_bom source → BeginsWith (strip_bom source) names → FirstEnds text end → columns ≡ columns_from names []
    → length marks ≡ length columns → old ≡ marked marks columns
    → RowsAt text end marks old t at row → AddsRows row marks t u (rows_in (take (length text - at) (drop at text))) → HoldsMarked marks source u
table_of source text names end marks columns old t u at row e begins first named wide only h adds =
    whole_table source names end marks columns old t u at row begins (subst (λ (x : Text). FirstEnds x end) e first) named wide only
    (subst (λ (x : Text). RowsAt x end marks old t at row) e h)
    (subst (λ (x : Text). AddsRows row marks t u (rows_in x)) (take_rest text at ∙ ap (drop at) e) adds)

pub fault_of : (source text : Text) (names : Fields) (end : ℕ) (marks : List Bool) (columns old t : List NamedColumn) (at row : ℕ) (f : TableFault)
    → text ≡ strip_bom source → BeginsWith (strip_bom source) names → FirstEnds text end → columns ≡ columns_from names []
    → length marks ≡ length columns
    → RowsAt text end marks old t at row → fault_from row (length marks) (rows_in (take (length text - at) (drop at text))) ≡ Some f
    → table_fault (rows_in source) ≡ Some f
fault_of source text names end marks columns old t at row f e begins first named wide h fault =
    whole_fault source names end marks old t at row begins (subst (λ (x : Text). FirstEnds x end) e first)
    (wide ∙ ap length named ∙ length-columns_from names [])
    (subst (λ (x : Text). RowsAt x end marks old t at row) e h)
    ∙ subst (λ (x : Text). fault_from row (length marks) (rows_in x) ≡ Some f) (take_rest text at ∙ ap (drop at) e) fault

-- all columns, and those that are asked for

pub on_table : (P Q : List NamedColumn → Type 0) → ((t : List NamedColumn) → P t → Q t) → (r : Result (List NamedColumn) TableFault)
    → IfOk r P → IfOk r Q
on_table P Q more (Ok t) h = more t h
on_table P Q more (Err e) h = h

pub holds_all : (source : Text) (marks : List Bool) (columns t : List NamedColumn) → AreNamed source columns → marks ≡ replicate (length columns) true
    → HoldsMarked marks source t → HoldsRows (rows_in source) t
holds_all source marks columns t named all h =
    let rows = rows_in source in
    let first = begins_rows source named.0 named.1 in
    let count : length (columns_in rows) ≡ length columns =
    ap (λ l. length (columns_in l)) first.1 ∙ length-columns_from named.0 first.0 ∙ sym (ap length named.2 ∙ length-columns_from named.0 []) in record {
      sound = h.sound;
      columns = h.columns ∙ ap (λ m. marked m (columns_in rows)) (all ∙ ap (λ n. replicate n true) (sym count)) ∙ marked_all (columns_in rows);
    }

pub holds_asked : (source : Text) (asked : List Text) (marks : List Bool) (columns t : List NamedColumn) → AreNamed source columns
    → marks ≡ marks_of asked columns → HoldsMarked marks source t → HoldsAsked asked (rows_in source) t
holds_asked source asked marks columns t named by h =
    let first = begins_rows source named.0 named.1 in
    let all = ap columns_in first.1 in record {
      sound = h.sound;
      columns = h.columns ∙ ap₂ marked (by ∙ ap (marks_of asked) named.2) all ∙ marked_asked asked named.0 first.0 ∙ sym (ap (columns_asked asked) all);
    }

-- ---- a byte-order mark

pub short_text : (t : Text) → length t < 3 → t ≡ strip_bom t
unfolding strip_bom
short_text [] lt = refl
short_text (a ∷ []) lt = refl
short_text (a ∷ b ∷ []) lt = refl
short_text (a ∷ b ∷ c ∷ rest) lt = absurd (omega arith)

long_text : (t : Text) → 3 ≤ length t → cond (is_bom (get_or t 0 0) (get_or t 1 0) (get_or t 2 0)) (drop 3 t) t ≡ strip_bom t
unfolding strip_bom
long_text [] le = absurd (omega arith)
long_text (a ∷ []) le = absurd (omega arith)
long_text (a ∷ b ∷ []) le = absurd (omega arith)
long_text (a ∷ b ∷ c ∷ rest) le = refl

pub marked_text : (t : Text) → 3 ≤ length t → true ≡ is_bom (get_or t 0 0) (get_or t 1 0) (get_or t 2 0)
    → take (length t - 3) (drop 3 t) ≡ strip_bom t
marked_text t le e = take_rest t 3 ∙ ap (λ b. cond b (drop 3 t) t) e ∙ long_text t le

pub unmarked_text : (t : Text) → 3 ≤ length t → false ≡ is_bom (get_or t 0 0) (get_or t 1 0) (get_or t 2 0) → t ≡ strip_bom t
unmarked_text t le e = ap (λ b. cond b (drop 3 t) t) e ∙ long_text t le
