-- A picture that is laid out.
--
-- Decided here: that each box has a spot, in the row of its level, and from where to where an arrow goes. How wide a
-- box is, where it stands in its row and where the rows are isn't decided.
use Rattle.std.specs.Prelude.{◌≡◌, ℕ, ◌+◌, ◌-◌, ◌/◌, ◌^◌, List, map, min, length, slice_index}
use Rattle.view_text.specs.declared.picture.Picture.{Picture}
use Rattle.view_text.specs.declared.layout.Spot.{Spot}
use Rattle.view_text.specs.declared.layout.Layout.{Layout}
use Rattle.view_text.specs.declared.curve.Curve.{Curve}

-- the top of the row of a level; the first level is 1
abbrev pub top_of : List ℕ → ℕ → ℕ
top_of rows level = slice_index rows (level - 1)

-- Each box has a spot, each level a row, and a box stands at the top of the row of its level.
pub record IsLayoutOf (p : Picture) (l : Layout) : Type 0 where
  pub spots : length l.spots.items ≡ length p.nodes.items
  pub rows : length l.rows.items ≡ p.levels
  pub levels : map (λ s. s.y) l.spots.items ≡ map (λ n. top_of l.rows.items n.level) p.nodes.items

-- ARROWS: numbers that 32 bits can't hold are drawn at the greatest that they hold

abbrev pub middle : Spot → ℕ
middle s = min (s.x + s.width / 2) (2 ^ 32 - 1)

abbrev pub bottom : Spot → ℕ
bottom s = min (s.y + s.height) (2 ^ 32 - 1)

abbrev pub halfway : ℕ → ℕ → ℕ
halfway a b = a / 2 + b / 2

-- from the middle of a box's lower edge to the middle of another box's upper edge
abbrev pub curve_of : Spot → Spot → Curve
curve_of from to = record {
  x = middle from;
  y = bottom from;
  end_x = middle to;
  end_y = to.y;
  half_x = halfway (middle from) (middle to);
  half_y = halfway (bottom from) to.y;
}
