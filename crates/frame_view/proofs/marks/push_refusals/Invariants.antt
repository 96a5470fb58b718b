use Rattle.std.proofs.Common.{◌≡◌, ◌++◌, drop}
use Rattle.frame_view.specs.Marks.{op_marks}
use Rattle.frame_view.proofs.marks.push_refusals.Given as goal

abbrev pub invariant-loop-op : goal.invariant-loop-op
invariant-loop-op l = l.marks.items ++ op_marks (drop l.op-index l.ops) ≡ l.fn.marks.items ++ op_marks l.ops
