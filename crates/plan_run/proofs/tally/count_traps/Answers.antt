use Rattle.std.proofs.Common.{◌≡◌, arith}
use Rattle.frame_core.specs.Names.{job_pieces}
use Rattle.plan_run.proofs.Tallies.{all_counted}
use Rattle.plan_run.proofs.tally.count_traps.Goals as goal

pub returns-clause-report : goal.returns-clause-report
returns-clause-report g c =
    let n = c.job_pieces-p-end.ensures in
    let t = c.loop-p-test.false in
    let u = c.loop-p.auto.p-end in
    let at : c.loop-p.p ≡ job_pieces c.args.plan.now = omega (arith, n, t, u) in
    all_counted c.args.plan.now c.loop-p.p c.loop-p.report at c.loop-p.invariant.report
