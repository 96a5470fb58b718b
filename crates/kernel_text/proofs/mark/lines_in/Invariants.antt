use Rattle.std.proofs.Common.{◌≡◌, ◌+◌, drop}
use Rattle.kernel_text.specs.Marks.{lines_in}
use Rattle.kernel_text.proofs.mark.lines_in.Given as goal

-- those counted and those to come are all
abbrev pub invariant-loop-mark : goal.invariant-loop-mark
invariant-loop-mark l = l.lines + lines_in (drop l.mark-index l.marks) ≡ lines_in l.marks
