use Rattle.std.proofs.Common.{◌≡◌, ◌+◌, ◌++◌, drop, map}
use Rattle.trace_view.specs.Shapes.{arrow_shape, arrow_shapes}
use Rattle.trace_view.proofs.arrows.arrow_traces.Given as goal

abbrev pub invariant-loop-j : goal.invariant-loop-j
invariant-loop-j l = map arrow_shape l.traces.items ++ arrow_shapes (l.j + 1) (drop l.j l.found) ≡ arrow_shapes 1 l.found
