-- Which texts have a row.
use Rattle.std.specs.Prelude.{◌==◌, ℕ, List, [], ◌∷◌, Bool, false, ◌||◌, if◌then◌else◌}
use Rattle.row_texts.specs.declared.tables.Place.{Place}
use Rattle.row_texts.specs.declared.tables.Place.TheVariants.{Start, Comment, Line}

-- where the byte after one that isn't a line feed stands: # begins a comment
abbrev pub next_in : Place → ℕ → Place
next_in Start byte = if byte == 35 then Comment else Line
next_in Comment byte = Comment
next_in Line byte = Line

abbrev pub next_place : Place → ℕ → Place
next_place place byte = if byte == 10 then Start else next_in place byte

-- a bar, and in no comment
abbrev pub parts : Place → ℕ → Bool
parts Comment byte = false
parts Start byte = byte == 124
parts Line byte = byte == 124

-- whether a byte of the rest parts the halves of a row
abbrev pub row_from : Place → List ℕ → Bool
row_from place [] = false
row_from place (byte ∷ others) = parts place byte || row_from (next_place place byte) others

abbrev pub has_row : List ℕ → Bool
has_row text = row_from Start text
