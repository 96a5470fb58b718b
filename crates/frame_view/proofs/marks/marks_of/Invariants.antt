use Rattle.std.proofs.Common.{◌≡◌, ◌++◌, drop}
use Rattle.frame_view.specs.Marks.{marks_of}
use Rattle.frame_view.proofs.marks.marks_of.Given as goal

abbrev pub invariant-loop-segment : goal.invariant-loop-segment
invariant-loop-segment l = l.marks.items ++ marks_of (drop l.segment-index l.plan.segments.items) ≡ marks_of l.plan.segments.items
