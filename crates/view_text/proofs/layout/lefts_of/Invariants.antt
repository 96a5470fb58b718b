use Rattle.std.proofs.Common.{◌≡◌, length}
use Rattle.view_text.proofs.layout.lefts_of.Given as goal

abbrev pub invariant-loop-row : goal.invariant-loop-row
invariant-loop-row l = length l.lefts.items ≡ length l.widths
