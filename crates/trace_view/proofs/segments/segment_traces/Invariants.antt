use Rattle.std.proofs.Common.{◌≡◌, ◌+◌, ◌++◌, map, length}
use Rattle.std.specs.Prelude.{◌-◌}
use Rattle.frame_core.specs.Names.{numbers_from}
use Rattle.trace_view.specs.Shapes.{segment_number}
use Rattle.trace_view.proofs.segments.segment_traces.Given as goal

abbrev pub invariant-loop-k : goal.invariant-loop-k
invariant-loop-k l = map segment_number l.traces.items ++ numbers_from (l.k + 1) (length l.plan.segments.items - l.k)
    ≡ numbers_from 1 (length l.plan.segments.items)
