use Rattle.std.proofs.Common.{false, None, Some, sym, ap, ◌∙◌}
use Rattle.plan_state.specs.Accesses.{refused_as}
use Rattle.plan_state.proofs.Accessing.{gone_by}
use Rattle.plan_state.proofs.state.World.is_disposed.Goals as goal

pub returns-in-None : goal.returns-in-None
returns-in-None c g s found st = gone_by s c.args.name false None
    (ap (λ o. refused_as o c.args.name) (sym c.in-None.is) ∙ c.blocked.ensures g s found st)

pub returns-in-Some : goal.returns-in-Some
returns-in-Some c g s found st = c.says_disposed.ensures ∙ gone_by s c.args.name false (Some c.in-Some.refusal)
    (ap (λ o. refused_as o c.args.name) (sym c.in-Some.is) ∙ c.blocked.ensures g s found st)
