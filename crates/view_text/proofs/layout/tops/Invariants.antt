use Rattle.std.proofs.Common.{◌≡◌, length}
use Rattle.view_text.proofs.layout.tops.Given as goal

abbrev pub invariant-loop-row : goal.invariant-loop-row
invariant-loop-row l = length l.tops.items ≡ l.row-index
