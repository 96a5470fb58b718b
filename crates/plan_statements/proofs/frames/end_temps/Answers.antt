use Rattle.std.proofs.Common.{refl, sym, ap, ◌∙◌, arith}
use Rattle.std.specs.Prelude.{slice_get}
use Rattle.plan_state.specs.declared.state.World.{World}
use Rattle.plan_statements.proofs.FramesGoOn.{over_none, over_more, over_all, next_read}
use Rattle.plan_statements.proofs.frames.end_temps.Goals as goal

pub loop-at-init : goal.loop-at-init
loop-at-init c = over_none c.args.world.now

pub end_temp-requires-clause-has : goal.end_temp-requires-clause-has
end_temp-requires-clause-has c =
    let read = next_read c.args.world.now c.loop-at.world c.loop-at.at c.loop-at.invariant c.requires.numbers
    (let e = c.len-at-end.ensures in let lt = c.loop-at-test.true in omega arith)
    c.index-number.result.now c.index-number.ensures c.index-container.result.now c.index-container.ensures in
    read.1

pub end_temp-requires-clause-small : goal.end_temp-requires-clause-small
end_temp-requires-clause-small c =
    let read = next_read c.args.world.now c.loop-at.world c.loop-at.at c.loop-at.invariant c.requires.numbers
    (let e = c.len-at-end.ensures in let lt = c.loop-at-test.true in omega arith)
    c.index-number.result.now c.index-number.ensures c.index-container.result.now c.index-container.ensures in
    (c.requires.small c.index-number.result.now c.index-container.result.now
    (ap (λ (k : World). slice_get k.containers.items c.index-number.result.now) (sym c.loop-at.invariant.rest) ∙ read.1)).0

pub loop-at-preserved : goal.loop-at-preserved
loop-at-preserved c =
    let read = next_read c.args.world.now c.loop-at.world c.loop-at.at c.loop-at.invariant c.requires.numbers
    (let e = c.len-at-end.ensures in let lt = c.loop-at-test.true in omega arith)
    c.index-number.result.now c.index-number.ensures c.index-container.result.now c.index-container.ensures in
    over_more c.args.world.now c.loop-at.world c.loop-at.at c.loop-at.invariant c.end_temp.new.world c.index-number.result.now
    c.index-container.result.now read.0
    read.1 c.end_temp.ensures

pub returns : goal.returns
returns c =
    over_all c.args.world.now c.loop-at.world c.loop-at.at c.loop-at.invariant _
    (let e = c.len-at-end.ensures in let le = c.loop-at-test.false in omega arith) refl c.clear.ensures.items
