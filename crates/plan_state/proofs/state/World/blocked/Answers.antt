use Rattle.std.proofs.Common.{sym, ap, ◌∙◌}
use Rattle.plan_state.specs.Accesses.{refused_as}
use Rattle.plan_state.proofs.Accessing.{no_tag, tag_answers, read_some}
use Rattle.plan_state.proofs.state.World.blocked.Goals as goal

pub returns-in-None : goal.returns-in-None
returns-in-None c g s found st = no_tag c.args.self.now g s found st c.args.name c.args.writes c.index-value.result.now
    (read_some c.args.self.now.values c.args.name c.index-value.result.now c.requires.name c.index-value.ensures) (sym c.tag.ensures ∙ c.in-None.is)

pub returns-in-Some : goal.returns-in-Some
returns-in-Some c g s found st =
    ap (λ o. refused_as o c.args.name) c.refusal_of.ensures.2
    ∙ tag_answers c.args.self.now g s found st c.args.name c.args.writes c.index-value.result.now
    (read_some c.args.self.now.values c.args.name c.index-value.result.now c.requires.name c.index-value.ensures) c.in-Some.tag
    (sym c.tag.ensures ∙ c.in-Some.is) c.refusal_of.ensures.0 c.refusal_of.ensures.1
