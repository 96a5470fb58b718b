use Rattle.std.proofs.Common.{◌≡◌, length, subst, sym, arith, rules}
use Rattle.plan_run.specs.Runs.{IsReport}
use Rattle.plan_run.proofs.Running.{all_reported}
use Rattle.steal_pool.proofs.turns.Turns.answer.Goals as goal

pub returns-clause-report : goal.returns-clause-report
returns-clause-report g c =
    let plan = c.args.self.now.plan.now in
    let at = c.args.at.now in
    let stands = c.requires.stands.1 in
    let n : c.len.result ≡ length plan.segments.items = search (rules, c.len.ensures) in
    let t = c.if-at-len.false in
    let within = stands.within in
    let all : at.segment ≡ length plan.segments.items = omega (arith, n, t, within) in
    subst (λ r. IsReport plan r) (sym c.of.ensures.report)
    (all_reported plan at.segment at.refused c.with_refused.result all stands.refused c.with_refused.ensures.refused
    (c.with_refused.ensures.traps _ (stands.traps all)))
