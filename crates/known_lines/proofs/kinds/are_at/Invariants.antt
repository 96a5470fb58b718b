use Rattle.std.proofs.Common.{◌≡◌, ◌<◌, ◌+◌, ℕ, map, slice_get}
use Rattle.known_lines.proofs.kinds.are_at.Given as goal

abbrev pub invariant-loop-index : goal.invariant-loop-index
invariant-loop-index g l = (j : ℕ) → j < l.index → slice_get (map g.T.HasKind.kind_of l.tokens) (l.place + j) ≡ slice_get l.kinds j
