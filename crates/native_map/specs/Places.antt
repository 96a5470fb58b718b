-- How many places the table has.
use Rattle.std.specs.Prelude.{ℕ, ◌-◌, ◌%◌, ◌^◌}
use Rattle.frame_ast.specs.Contents.{map_places}

-- how many places the table of a map has, by its capacity
unfoldable pub places : ℕ → ℕ
places cap = map_places cap

-- what a map's bind keeps of that number, in 32 bits: one less, the mask of places
abbrev pub mask_of : ℕ → ℕ
mask_of cap = (places cap - 1) % 2 ^ 32
