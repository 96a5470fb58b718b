use Rattle.std.proofs.Common.{ap, ◌∙◌}
use Rattle.plan_state.specs.declared.state.World.{World}
use Rattle.plan_schedules.proofs.Slots.{note_step}
use Rattle.plan_schedules.proofs.note_uses.note_all.Goals as goal

pub loop-i-preserved : goal.loop-i-preserved
loop-i-preserved c =
    let was = c.loop-i.invariant in
    let step = note_step c.args.job.0 c.args.uses.now c.loop-i.i _ c.loop-i-test.true c.loop-i.world.safety c.note.new.book was.may c.note.ensures in
    record {
      may = step.0;
      noted = λ k. step.1 k ∙ was.noted k;
      rest = ap (λ (w : World). record w { safety = c.note.new.book }) was.rest;
    }
