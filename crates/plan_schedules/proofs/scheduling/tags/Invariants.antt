use Rattle.std.proofs.Common.{◌≡◌, ◌++◌, drop}
use Rattle.plan_schedules.specs.Uses.{tags_of}
use Rattle.plan_schedules.proofs.scheduling.tags.Given as goal

abbrev pub invariant-loop-i : goal.invariant-loop-i
invariant-loop-i l = l.tags.items ++ tags_of (drop l.i l.uses) ≡ tags_of l.uses
