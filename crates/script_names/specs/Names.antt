-- The names of a script: which are known before a statement, and for what each stands.
use Rattle.std.specs.Prelude.{ℕ, Bool, if◌then◌else◌, List, [], ◌∷◌, ◌++◌, Option, is_some, position, find}
use Rattle.std.specs.Option.{option_map}
use Rattle.std.specs.Str.{bytes_eq}
use Rattle.frame_ast.specs.declared.name_kind.NameKind.{NameKind}

-- a name, and what it stands for
pub record Name : Type 0 where
  pub text : List ℕ
  pub kind : NameKind

-- KNOWN NAMES: they stand in the order of their first making

abbrev pub is_called : List ℕ → Name → Bool
is_called text name = bytes_eq text name.text

-- the place of a name among those known, and what it stands for
abbrev pub place_in : List Name → List ℕ → Option ℕ
place_in names text = position (is_called text) names

abbrev pub kind_in : List Name → List ℕ → Option NameKind
kind_in names text = option_map (λ n. n.kind) (find (is_called text) names)

-- the names after one is made, for the first time or again
abbrev pub with_name : List Name → List ℕ → NameKind → List Name
with_name names text kind =
    if is_some (place_in names text) then names else names ++ record { text = text; kind = kind } ∷ []
