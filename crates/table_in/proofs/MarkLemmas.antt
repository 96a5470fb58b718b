-- What is marked of lists, of columns and of records.
use Rattle.std.proofs.Common.{refl, ap, ap₂, pos, length-append, ◌≡◌, true, false, Bool, None, List, [], ◌∷◌, ◌++◌, ◌∙◌, sym, ℕ, ℤ, ◌<◌, ◌≤◌, ◌+◌, arith, length, suc, zero, map, drop, take, replicate}
use Rattle.std.specs.Prelude.{if◌then◌else◌}
use Rattle.std.specs.List.{slice_set, slice_index_or}
use Rattle.std.proofs.lemmas.List.{map-append}
use Rattle.table_in.specs.Numbers.{Text}
use Rattle.table_in.specs.Rows.{Fields, row_fault, fault_from}
use Rattle.table_in.specs.Columns.{NamedColumn, empty_column, with_value, value_of, columns_from, columns_asked, is_asked, with_row, with_values}
use Rattle.table_in.specs.Plain.{IsMarked, marked, marks_of, with_rows}
use Rattle.table_in.proofs.RowLemmas.{row_width}
use Rattle.table_in.proofs.ColumnLemmas.{length-with_row, length-with_values, with_rows-append, with_values-nil, no_fault}

pub marked-map : {A B : Type 0} (f : A → B) (marks : List Bool) (xs : List A) → map f (marked marks xs) ≡ marked marks (map f xs)
marked-map f [] xs = refl
marked-map f (m ∷ marks) [] = refl
marked-map f (true ∷ marks) (x ∷ xs) = ap (λ l. f x ∷ l) (marked-map f marks xs)
marked-map f (false ∷ marks) (x ∷ xs) = marked-map f marks xs

-- as many are marked in lists of one length
pub length-marked : {A B : Type 0} (marks : List Bool) (xs : List A) (ys : List B) → length xs ≡ length ys
    → length (marked marks xs) ≡ length (marked marks ys)
length-marked [] xs ys e = refl
length-marked (m ∷ marks) [] [] e = refl
length-marked (m ∷ marks) [] (y ∷ ys) e = absurd (omega arith)
length-marked (m ∷ marks) (x ∷ xs) [] e = absurd (omega arith)
length-marked (true ∷ marks) (x ∷ xs) (y ∷ ys) e = ap suc (length-marked marks xs ys (omega arith))
length-marked (false ∷ marks) (x ∷ xs) (y ∷ ys) e = length-marked marks xs ys (omega arith)

-- and no more among the first of them
pub fewer_marked : {A : Type 0} (marks : List Bool) (xs : List A) (n : ℕ) → length (marked (take n marks) (take n xs)) ≤ length (marked marks xs)
fewer_marked marks xs zero = omega arith
fewer_marked [] xs (suc n) = omega arith
fewer_marked (m ∷ marks) [] (suc n) = omega arith
fewer_marked (true ∷ marks) (x ∷ xs) (suc n) = let few = fewer_marked marks xs n in omega arith
fewer_marked (false ∷ marks) (x ∷ xs) (suc n) = fewer_marked marks xs n

-- no more are marked of the first ones than these are
pub few_marked : {A : Type 0} (marks : List Bool) (xs : List A) (n : ℕ) → length (marked (take n marks) (take n xs)) ≤ n
few_marked marks xs zero = omega arith
few_marked [] xs (suc n) = omega arith
few_marked (m ∷ marks) [] (suc n) = omega arith
few_marked (true ∷ marks) (x ∷ xs) (suc n) = let few = few_marked marks xs n in omega arith
few_marked (false ∷ marks) (x ∷ xs) (suc n) = let few = few_marked marks xs n in omega arith

pub marked_more : {A : Type 0} (none : A) (marks : List Bool) (xs : List A) (i : ℕ) → i < length marks → i < length xs
    → slice_index_or marks i false ≡ true
    → marked (take (i + 1) marks) (take (i + 1) xs) ≡ marked (take i marks) (take i xs) ++ slice_index_or xs i none ∷ []
marked_more none [] xs i lt inside e = absurd (omega arith)
marked_more none (m ∷ marks) [] i lt inside e = absurd (omega arith)
marked_more none (true ∷ marks) (x ∷ xs) zero lt inside e = refl
marked_more none (false ∷ marks) (x ∷ xs) zero lt inside e = absurd (let bad : false ≡ true = e in cc)
marked_more none (true ∷ marks) (x ∷ xs) (suc i) lt inside e =
    let one_more : suc i + 1 ≡ suc (i + 1) = omega arith in
    ap (λ n. marked (take n (true ∷ marks)) (take n (x ∷ xs))) one_more ∙ ap (λ l. x ∷ l) (marked_more none marks xs i (omega arith) (omega arith) e)
marked_more none (false ∷ marks) (x ∷ xs) (suc i) lt inside e =
    let one_more : suc i + 1 ≡ suc (i + 1) = omega arith in
    ap (λ n. marked (take n (false ∷ marks)) (take n (x ∷ xs))) one_more ∙ marked_more none marks xs i (omega arith) (omega arith) e

pub marked_same : {A : Type 0} (marks : List Bool) (xs : List A) (i : ℕ) → i < length marks → i < length xs → slice_index_or marks i false ≡ false
    → marked (take (i + 1) marks) (take (i + 1) xs) ≡ marked (take i marks) (take i xs)
marked_same [] xs i lt inside e = absurd (omega arith)
marked_same (m ∷ marks) [] i lt inside e = absurd (omega arith)
marked_same (true ∷ marks) (x ∷ xs) zero lt inside e = absurd (let bad : true ≡ false = e in cc)
marked_same (false ∷ marks) (x ∷ xs) zero lt inside e = refl
marked_same (true ∷ marks) (x ∷ xs) (suc i) lt inside e =
    let one_more : suc i + 1 ≡ suc (i + 1) = omega arith in
    ap (λ n. marked (take n (true ∷ marks)) (take n (x ∷ xs))) one_more ∙ ap (λ l. x ∷ l) (marked_same marks xs i (omega arith) (omega arith) e)
marked_same (false ∷ marks) (x ∷ xs) (suc i) lt inside e =
    let one_more : suc i + 1 ≡ suc (i + 1) = omega arith in
    ap (λ n. marked (take n (false ∷ marks)) (take n (x ∷ xs))) one_more ∙ marked_same marks xs i (omega arith) (omega arith) e

pub marked_all : {A : Type 0} (xs : List A) → marked (replicate (length xs) true) xs ≡ xs
marked_all [] = refl
marked_all (x ∷ xs) = ap (λ l. x ∷ l) (marked_all xs)

-- ---- columns

-- one value more, of the next column
value_more : (columns : List NamedColumn) (values : List ℤ) (v : ℤ) → length values < length columns
    → slice_set (with_values columns values) (length values)
    (with_value (slice_index_or (with_values columns values) (length values) (empty_column [])) v)
    ≡ with_values columns (values ++ v ∷ [])
value_more [] values v lt = absurd (omega arith)
value_more (c ∷ columns) [] v lt = ap (λ (l : List NamedColumn). with_value c v ∷ l) (sym (with_values-nil columns))
value_more (c ∷ columns) (x ∷ values) v lt = ap (λ (l : List NamedColumn). with_value c x ∷ l) (value_more columns values v (omega arith))

pub column_for : (marks : List Bool) (values : List ℤ) (init held : List NamedColumn) (place i : ℕ) → IsMarked marks init → length values ≡ length marks
    → held ≡ with_values init (marked (take i marks) (take i values)) → place ≡ length (marked (take i marks) (take i values))
    → i < length values → slice_index_or marks i false ≡ true → place < length held
column_for marks values init held place i wide same is at lt e =
    let more = ap length (marked_more (pos 0) marks values i (omega arith) lt e) in
    let next = length-append (marked (take i marks) (take i values)) (slice_index_or values i (pos 0) ∷ []) in
    let few = fewer_marked marks values (i + 1) in
    let all = length-marked marks values marks same in
    let size = ap length is ∙ length-with_values init (marked (take i marks) (take i values)) in
    omega (arith, more, next, few, all, size, wide, at)

pub marked_step : (marks : List Bool) (values : List ℤ) (init held new : List NamedColumn) (place i : ℕ) (v : ℤ) → IsMarked marks init
    → length values ≡ length marks
    → held ≡ with_values init (marked (take i marks) (take i values)) → place ≡ length (marked (take i marks) (take i values))
    → i < length values → slice_index_or marks i false ≡ true → v ≡ slice_index_or values i (pos 0)
    → new ≡ slice_set held place (with_value (slice_index_or held place (empty_column [])) v)
    → (new ≡ with_values init (marked (take (i + 1) marks) (take (i + 1) values)))
    × (place + 1 ≡ length (marked (take (i + 1) marks) (take (i + 1) values)))
marked_step marks values init held new place i v wide same is at lt e value step =
    let picked = marked (take i marks) (take i values) in
    let more = marked_more (pos 0) marks values i (omega arith) lt e in
    let next = length-append picked (slice_index_or values i (pos 0) ∷ []) in
    let inside = column_for marks values init held place i wide same is at lt e in
    let size = ap length is ∙ length-with_values init picked in
    let room : length picked < length init = omega (arith, inside, size, at) in (
      step
          ∙ ap₂ (λ l p. slice_set l p (with_value (slice_index_or l p (empty_column [])) v)) is at
          ∙ value_more init picked v room
          ∙ ap (λ w. with_values init (picked ++ w ∷ [])) value
          ∙ sym (ap (with_values init) more),
      omega (arith, ap length more, next, at),
    )

-- ---- records

marked-row : (marks : List Bool) (columns : List NamedColumn) (fields : Fields) → length fields ≡ length columns
    → with_row (marked marks columns) (marked marks fields) ≡ marked marks (with_row columns fields)
marked-row [] columns fields e = refl
marked-row (m ∷ marks) [] fields e = refl
marked-row (m ∷ marks) (c ∷ columns) [] e = absurd (omega arith)
marked-row (true ∷ marks) (c ∷ columns) (f ∷ fields) e =
    ap (λ (l : List NamedColumn). with_value c (value_of f) ∷ l) (marked-row marks columns fields (omega arith))
marked-row (false ∷ marks) (c ∷ columns) (f ∷ fields) e = marked-row marks columns fields (omega arith)

pub marked-rows : (marks : List Bool) (columns : List NamedColumn) (rows : List Fields) (row : ℕ) → fault_from row (length columns) rows ≡ None
    → with_rows (marked marks columns) (map (marked marks) rows) ≡ marked marks (with_rows columns rows)
marked-rows marks columns [] row sound = refl
marked-rows marks columns (r ∷ rows) row sound =
    let parts = no_fault (row_fault row (length columns) r) (fault_from (row + 1) (length columns) rows) sound in
    let wide = length-with_row columns r in
    ap (λ l. with_rows l (map (marked marks) rows)) (marked-row marks columns r (row_width row (length columns) r parts.0))
    ∙ marked-rows marks (with_row columns r) rows (row + 1) (ap (λ n. fault_from (row + 1) n rows) wide ∙ parts.1)

-- one record more
pub marked_rows-more : (marks : List Bool) (columns : List NamedColumn) (rows : List Fields) (fields : Fields)
    → with_rows columns (map (marked marks) (rows ++ fields ∷ [])) ≡ with_row (with_rows columns (map (marked marks) rows)) (marked marks fields)
marked_rows-more marks columns rows fields =
    ap (with_rows columns) (map-append (marked marks) rows (fields ∷ []))
    ∙ with_rows-append columns (map (marked marks) rows) (marked marks fields ∷ [])

-- ---- names

pub marked_asked : (asked : List Text) (names : Fields) (rows : List Fields)
    → marked (marks_of asked (columns_from names [])) (columns_from names rows) ≡ columns_asked asked (columns_from names rows)
marked_asked asked [] rows = refl
marked_asked asked (n ∷ names) rows =
    ap (λ (l : List NamedColumn). if is_asked asked n then (columns_from (n ∷ []) rows) ++ l else l) (marked_asked asked names (map (drop 1) rows))
