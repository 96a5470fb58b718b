-- The columns that the statements of a script name.
use Rattle.std.proofs.Common.{refl, sym, ap, ◌∙◌, ◌≡◌, ◌<◌, ◌+◌, ℕ, zero, suc, true, List, [], ◌∷◌, ◌++◌, length, map, take, subst, append_assoc, append-nil, arith}
use Rattle.std.specs.List.{list_all, slice_index_or}
use Rattle.std.proofs.lemmas.Bool.{and_parts}
use Rattle.frame_ast.specs.declared.script.Order.{Order}
use Rattle.frame_ast.specs.declared.script.Order.TheVariants.{Column}
use Rattle.frame_ast.specs.declared.script.Statement.{Statement}
use Rattle.frame_ast.specs.Orders.{Table}
use Rattle.plan_statements.specs.Tables.{columns_of}
use Rattle.table_in.specs.Columns.{NamedColumn, columns_asked, is_asked}
use Rattle.table_in.proofs.AskedLemmas.{asked_column, all_asked}
use Rattle.table_laws.specs.Laws.{AnswerAlike, AnswerAllAlike}
use Rattle.command_words.specs.Words.{Text}
use Rattle.frame_top.specs.Columns.{columns_by, column_names}

-- one statement more
pub names_more : (xs : List Statement) (i : ℕ) (x : Statement) → i < length xs → x ≡ slice_index_or xs i x
    → column_names (take (i + 1) xs) ≡ column_names (take i xs) ++ columns_by x.act
names_more [] i x lt at = absurd (omega arith)
names_more (y ∷ xs) zero x lt at = append-nil (columns_by y.act) ∙ ap (λ (z : Statement). columns_by z.act) (sym at)
names_more (y ∷ xs) (suc i) x lt at =
    let one_more : suc i + 1 ≡ suc (i + 1) = omega arith in
    ap (λ n. column_names (take n (y ∷ xs))) one_more
    ∙ ap (λ l. columns_by y.act ++ l) (names_more xs i x (omega arith) at)
    ∙ sym (append_assoc (columns_by y.act) (column_names (take i xs)) (columns_by x.act))

module _ (names : List Text) (columns : List NamedColumn) where
  one_alike : (x : Order) (more : List Text) → list_all (is_asked names) (columns_by x ++ more) ≡ true
      → AnswerAlike (columns_of (columns_asked names columns)) (columns_of columns) x × (list_all (is_asked names) more ≡ true)
  one_alike (Column name column life) more e =
      let parts = and_parts (is_asked names column.items) (list_all (is_asked names) more) e in
      (asked_column names column.items columns parts.0, parts.1)
  one_alike x more e = (tt, e)

  each_alike : (xs : List Statement) → list_all (is_asked names) (column_names xs) ≡ true
      → AnswerAllAlike (columns_of (columns_asked names columns)) (columns_of columns) xs
  each_alike [] e = tt
  each_alike (x ∷ xs) e = let one = one_alike x.act (column_names xs) e in (one.0, each_alike xs one.1)

-- A table of the columns that statements name answers for these as the whole table does.
pub named_alike : (names : List Text) (columns table : List NamedColumn) (xs : List Statement) → names ≡ column_names xs
    → table ≡ columns_asked names columns → AnswerAllAlike (columns_of table) (columns_of columns) xs
named_alike names columns table xs is kept =
    subst (λ (t : List NamedColumn). AnswerAllAlike (columns_of t) (columns_of columns) xs) (sym kept)
    (each_alike names columns xs (subst (λ (l : List Text). list_all (is_asked names) l ≡ true) is (all_asked names)))

any_alike : (t : Table) (x : Order) → AnswerAlike t t x
any_alike t (Column name column life) = refl
any_alike t x = tt

-- a table answers as itself
pub itself : (t : Table) (xs : List Statement) → AnswerAllAlike t t xs
itself t [] = tt
itself t (x ∷ xs) = (any_alike t x.act, itself t xs)
