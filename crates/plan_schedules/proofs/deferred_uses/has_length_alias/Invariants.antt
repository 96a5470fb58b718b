use Rattle.std.proofs.Common.{◌≡◌, drop}
use Rattle.std.specs.List.{list_any}
use Rattle.frame_ast.specs.Schedules.{alias}
use Rattle.plan_schedules.specs.Uses.{given_of}
use Rattle.plan_schedules.specs.Deferring.{length_given}
use Rattle.plan_schedules.proofs.deferred_uses.has_length_alias.Given as goal

abbrev pub invariant-loop-i : goal.invariant-loop-i
invariant-loop-i l =
    list_any (λ a. alias (given_of a) (length_given l.length)) (drop l.i l.args) ≡ list_any (λ a. alias (given_of a) (length_given l.length)) l.args
