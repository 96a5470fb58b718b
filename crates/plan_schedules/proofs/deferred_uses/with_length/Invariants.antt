use Rattle.std.proofs.Common.{◌≡◌, take}
use Rattle.plan_schedules.proofs.deferred_uses.with_length.Given as goal

abbrev pub invariant-loop-i : goal.invariant-loop-i
invariant-loop-i l = l.all.items ≡ take l.i l.args
