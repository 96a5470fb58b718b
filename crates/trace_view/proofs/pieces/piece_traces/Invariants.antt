use Rattle.std.proofs.Common.{◌≡◌, ◌++◌, map}
use Rattle.std.specs.Prelude.{◌-◌}
use Rattle.trace_view.specs.Shapes.{piece_shape, piece_shapes}
use Rattle.trace_view.proofs.pieces.piece_traces.Given as goal

abbrev pub invariant-loop-i : goal.invariant-loop-i
invariant-loop-i l = map piece_shape l.traces.items ++ piece_shapes l.job l.i (l.pieces - l.i) ≡ piece_shapes l.job 0 l.pieces
