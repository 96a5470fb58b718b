use Rattle.std.proofs.Common.{◌≡◌, drop}
use Rattle.frame_view.specs.Marks.{next_fit}
use Rattle.frame_view.proofs.marks.next_mark.Given as goal

abbrev pub invariant-loop-i : goal.invariant-loop-i
invariant-loop-i l = next_fit l.line l.i (drop l.i l.marks) ≡ next_fit l.line l.from (drop l.from l.marks)
