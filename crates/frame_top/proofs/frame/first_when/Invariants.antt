use Rattle.std.proofs.Common.{◌≡◌, drop}
use Rattle.frame_top.specs.Refusals.{first_when}
use Rattle.frame_top.proofs.frame.first_when.Given as goal

abbrev pub invariant-loop-i : goal.invariant-loop-i
invariant-loop-i l = first_when (drop l.i l.script.statements.items) ≡ first_when l.script.statements.items
