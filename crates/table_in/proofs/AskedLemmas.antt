-- A table of the columns that are asked for answers for each of these as the whole table does.
use Rattle.std.proofs.Common.{refl, ap, ◌≡◌, true, false, Some, List, [], ◌∷◌, ◌++◌, ◌∙◌, sym, subst, append_assoc, inl, inr}
use Rattle.std.specs.Prelude.{if◌then◌else◌, ◌||◌}
use Rattle.std.specs.List.{list_all, list_any}
use Rattle.std.specs.Str.{bytes_eq}
use Rattle.std.proofs.lemmas.Bool.{and_from, cases_Bool, or_right}
use Rattle.std.proofs.lemmas.List.Folds.{list_any-append}
use Rattle.std.proofs.lemmas.Slice.Eq.{bytes_eq-Decides}
use Rattle.table_in.specs.Numbers.{Text}
use Rattle.table_in.specs.Columns.{NamedColumn, column_named, columns_asked, is_asked}

bytes_self : (name : Text) → bytes_eq name name ≡ true
bytes_self name = (bytes_eq-Decides name name).1 refl

-- a column of another name than one that is asked for
other_name : (asked : List Text) (name other : Text) → is_asked asked name ≡ true → is_asked asked other ≡ false → bytes_eq other name ≡ false
other_name asked name other asks lacks = elim (cases_Bool (bytes_eq other name)) [
  | inl same ↦
      let is : other ≡ name = (bytes_eq-Decides other name).0 same in
      let bad : true ≡ false = sym asks ∙ sym (ap (is_asked asked) is) ∙ lacks in absurd cc
  | inr differs ↦ differs
]

pub asked_column : (asked : List Text) (name : Text) (columns : List NamedColumn) → is_asked asked name ≡ true
    → column_named name (columns_asked asked columns) ≡ column_named name columns
asked_column asked name [] asks = refl
asked_column asked name (c ∷ columns) asks = elim (cases_Bool (is_asked asked c.name)) [
  | inl kept ↦
      ap (λ b. column_named name (if b then c ∷ columns_asked asked columns else columns_asked asked columns)) kept
      ∙ ap (λ o. if bytes_eq c.name name then Some c.values else o) (asked_column asked name columns asks)
  | inr left ↦
      ap (λ b. column_named name (if b then c ∷ columns_asked asked columns else columns_asked asked columns)) left
      ∙ asked_column asked name columns asks
      ∙ sym (ap (λ b. if b then Some c.values else column_named name columns) (other_name asked name c.name asks left))
]

-- each of the names that are asked for is one of them
any_there : (before more : List Text) (name : Text) → is_asked (before ++ name ∷ more) name ≡ true
any_there before more name =
    list_any-append (λ a. bytes_eq a name) before (name ∷ more)
    ∙ or_right _ _ (ap (λ b. b || list_any (λ a. bytes_eq a name) more) (bytes_self name))

all_after : (before names : List Text) → list_all (is_asked (before ++ names)) names ≡ true
all_after before [] = refl
all_after before (a ∷ names) =
    and_from _ _ (any_there before names a)
    (subst (λ (l : List Text). list_all (is_asked l) names ≡ true) (append_assoc before (a ∷ []) names) (all_after (before ++ a ∷ []) names))

pub all_asked : (names : List Text) → list_all (is_asked names) names ≡ true
all_asked names = all_after [] names
