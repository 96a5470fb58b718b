use Rattle.std.proofs.Common.{◌≡◌, drop}
use Rattle.plan_state.specs.Works.{body_has_loop}
use Rattle.plan_state.proofs.works.+loops.Given as goal

abbrev pub invariant-body_has_loop-loop-s : goal.invariant-body_has_loop-loop-s
invariant-body_has_loop-loop-s l = body_has_loop (drop l.s-index l.body) ≡ body_has_loop l.body
