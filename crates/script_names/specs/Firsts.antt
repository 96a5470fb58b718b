-- How the list of each bucket's first name is kept: a number for each bucket.
use Rattle.std.specs.Prelude.{ℕ, zero, suc, Option, Some, None}

-- the place that a number notes: it is one more than the place, and 0 where the bucket has no name
abbrev pub place_noted : ℕ → Option ℕ
place_noted zero = None
place_noted (suc place) = Some place
