use Rattle.std.proofs.Common.{◌≡◌, ◌+◌, ◌++◌, drop}
use Rattle.frame_core.specs.Touches.{binds_touch}
use Rattle.frame_core.proofs.footprint.list_binds.Given as goal

abbrev pub invariant-loop-i : goal.invariant-loop-i
invariant-loop-i l =
    l.out.items ++ binds_touch l.parallel (drop l.i l.params) (drop l.i l.binds) l.span.start (l.span.start + l.span.len)
    ≡ l.fn.out.items ++ binds_touch l.parallel l.params l.binds l.span.start (l.span.start + l.span.len)
