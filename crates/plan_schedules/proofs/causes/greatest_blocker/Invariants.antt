use Rattle.std.proofs.Common.{◌≡◌, drop}
use Rattle.std.specs.Prelude.{max}
use Rattle.plan_schedules.specs.Causes.{greatest_blocker}
use Rattle.plan_schedules.proofs.causes.greatest_blocker.Given as goal

abbrev pub invariant-loop-i : goal.invariant-loop-i
invariant-loop-i l = max l.greatest (greatest_blocker (drop l.i l.uses)) ≡ greatest_blocker l.uses
