use Rattle.std.proofs.Common.{◌≡◌, drop}
use Rattle.plan_schedules.specs.Causes.{first_with, has_cause}
use Rattle.plan_schedules.proofs.causes.first_with.Given as goal

abbrev pub invariant-loop-i : goal.invariant-loop-i
invariant-loop-i l =
    first_with l.refusal (has_cause l.parallel l.refusal) (drop l.i l.uses) ≡ first_with l.refusal (has_cause l.parallel l.refusal) l.uses
