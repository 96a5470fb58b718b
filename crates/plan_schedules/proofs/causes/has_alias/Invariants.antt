use Rattle.std.proofs.Common.{◌≡◌, drop}
use Rattle.std.specs.List.{list_any}
use Rattle.frame_ast.specs.Schedules.{alias}
use Rattle.plan_schedules.specs.Uses.{given_of}
use Rattle.plan_schedules.proofs.causes.has_alias.Given as goal

abbrev pub invariant-loop-i : goal.invariant-loop-i
invariant-loop-i l =
    list_any (λ a. alias (given_of a) (given_of l.one)) (drop l.i l.before) ≡ list_any (λ a. alias (given_of a) (given_of l.one)) l.before
