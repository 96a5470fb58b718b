-- Which lines of a table are no rows.
use Rattle.std.specs.Prelude.{◌==◌, ℕ, List, [], ◌∷◌, Bool, true}

-- an empty line, or a comment, which begins with #
abbrev pub is_blank : List ℕ → Bool
is_blank [] = true
is_blank (byte ∷ others) = byte == 35
