use Rattle.std.proofs.Common.{◌≡◌, ◌++◌, drop, map}
use Rattle.trace_view.specs.Shapes.{arrow_shape, arrow_shape_of}
use Rattle.trace_view.proofs.arrows.add_arrows.Given as goal

abbrev pub invariant-loop-arrow : goal.invariant-loop-arrow
invariant-loop-arrow l = map arrow_shape l.traces.items ++ map (arrow_shape_of l.later.0) (drop l.arrow-index l.arrows)
    ≡ map arrow_shape l.fn.traces.items ++ map (arrow_shape_of l.later.0) l.arrows
