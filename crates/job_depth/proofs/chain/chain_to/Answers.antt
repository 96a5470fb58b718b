use Rattle.std.proofs.Common.{◌<◌, sym, ap, subst}
use Rattle.job_depth.specs.Chains.{ChosenTo}
use Rattle.job_depth.specs.Direct.{level_of, number_of}
use Rattle.job_depth.proofs.Chaining.{IsWalkedTo, on_as, down_as, ends_as}
use Rattle.job_depth.proofs.chain.chain_to.Goals as goal

pub loop-job-smaller : goal.loop-job-smaller
loop-job-smaller c =
    let levels = c.args.found.now.levels.items in
    let here = subst (λ o. IsWalkedTo c.args.plan.now levels c.args.last o c.loop-job.chain.items) c.in-Some.is c.loop-job.invariant in
    let down = down_as c.args.plan.now levels c.requires.well _ c.requires.found c.args.last c.in-Some.id c.index-job.result.now _ c.index-job.ensures here in
    subst (λ n. level_of levels (number_of c.index-job.result.now) < level_of levels n) (sym (ap number_of c.in-Some.is)) down

pub loop-job-preserved : goal.loop-job-preserved
loop-job-preserved c =
    let levels = c.args.found.now.levels.items in
    let here = subst (λ o. IsWalkedTo c.args.plan.now levels c.args.last o c.loop-job.chain.items) c.in-Some.is c.loop-job.invariant in
    on_as c.args.plan.now levels c.requires.well _ c.requires.found c.args.last c.in-Some.id c.index-job.result.now _ _ c.index-job.ensures
    c.in_ok-push.ensures.items here

pub returns-clause-some : goal.returns-clause-some
returns-clause-some c = λ j e.
    let levels = c.args.found.now.levels.items in
    let here = subst (λ o. IsWalkedTo c.args.plan.now levels c.args.last o c.loop-job.chain.items) c.in_default.is c.loop-job.invariant in
    subst (λ xs. ChosenTo c.args.plan.now levels xs j) (sym c.reverse.ensures.items)
    (ends_as c.args.plan.now levels c.requires.well _ c.requires.found c.args.last c.loop-job.chain.items here j e)
