use Rattle.std.proofs.Common.{◌≡◌, length}
use Rattle.view_text.proofs.layout.boxes_by_row.Given as goal

abbrev pub invariant-loop-at : goal.invariant-loop-at
invariant-loop-at l = length l.rows.items ≡ l.picture.levels
