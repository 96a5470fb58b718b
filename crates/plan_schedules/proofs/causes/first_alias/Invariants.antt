use Rattle.std.proofs.Common.{◌≡◌, take, drop}
use Rattle.plan_schedules.specs.Causes.{alias_after, alias_of}
use Rattle.plan_schedules.proofs.causes.first_alias.Given as goal

abbrev pub invariant-loop-i : goal.invariant-loop-i
invariant-loop-i l = alias_after (take l.i l.uses) (drop l.i l.uses) ≡ alias_of l.uses
