use Rattle.std.proofs.Common.{◌≡◌, ◌++◌, drop}
use Rattle.frame_core.specs.Touches.{ops_touch}
use Rattle.frame_core.proofs.footprint.list_ops.Given as goal

abbrev pub invariant-loop-i : goal.invariant-loop-i
invariant-loop-i l = l.out.items ++ ops_touch (drop l.i l.ops) ≡ l.fn.out.items ++ ops_touch l.ops
