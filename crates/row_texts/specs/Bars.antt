-- Where the halves of a row part.
use Rattle.std.specs.Prelude.{◌==◌, ℕ, Bool}

-- |
abbrev pub is_bar : ℕ → Bool
is_bar byte = byte == 124
