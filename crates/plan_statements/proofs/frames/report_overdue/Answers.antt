use Rattle.std.proofs.Common.{◌<◌, refl, sym, subst, arith}
use Rattle.std.specs.List.{All}
use Rattle.std.specs.Prelude.{vec_len}
use Rattle.frame_core.proofs.Small.{get_below}
use Rattle.plan_state.specs.declared.state.World.{World}
use Rattle.plan_statements.specs.Frames.{AreSmall}
use Rattle.plan_statements.proofs.Reporting.{AreReportedSoFar, place_fits, reported_none, reported_more, reported_all}
use Rattle.plan_statements.proofs.frames.report_overdue.Goals as goal

pub loop-container-init : goal.loop-container-init
loop-container-init c = subst (AreReportedSoFar c.args.world.now c.args.world.now c.args.line) (sym c.new-ops.ensures.items)
    (reported_none c.args.world.now c.args.line)

pub next_due-requires-clause-numbers : goal.next_due-requires-clause-numbers
next_due-requires-clause-numbers c =
    subst (λ (k : World). All (λ c. c < vec_len k.containers) k.tempjobs.items) (sym c.loop-container.invariant.rest) c.requires.numbers

pub next_due-requires-clause-small : goal.next_due-requires-clause-small
next_due-requires-clause-small c = subst (λ (k : World). AreSmall k.containers.items) (sym c.loop-container.invariant.rest) c.requires.small

pub overflow_add-world : goal.overflow_add-world
overflow_add-world c =
    let fits = place_fits c.args.world.now c.loop-container.world c.args.line c.loop-container.ops.items c.loop-container.invariant c.in-Some.container
    c.in-Some.ensures c.requires.room in
    omega arith

pub loop-container-smaller : goal.loop-container-smaller
loop-container-smaller c =
    let lt = get_below c.loop-container.world.tempjobs.items c.loop-container.world.overdue c.in-Some.ensures.number c.in-Some.ensures.at in
    omega arith

pub loop-container-preserved : goal.loop-container-preserved
loop-container-preserved c =
    reported_more c.args.world.now c.loop-container.world c.args.line c.loop-container.ops.items c.loop-container.invariant _ c.in-Some.container
    c.report.new.ops.items c.in-Some.ensures c.in_ok-report.ensures refl

pub returns : goal.returns
returns c = reported_all c.args.world.now c.loop-container.world c.args.line c.loop-container.ops.items c.loop-container.invariant c.in_default.ensures
