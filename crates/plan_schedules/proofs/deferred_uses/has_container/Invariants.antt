use Rattle.std.proofs.Common.{◌≡◌, drop}
use Rattle.plan_schedules.specs.Deferring.{has_container}
use Rattle.plan_schedules.proofs.deferred_uses.has_container.Given as goal

abbrev pub invariant-loop-i : goal.invariant-loop-i
invariant-loop-i l = has_container (drop l.i l.uses) l.container ≡ has_container l.uses l.container
