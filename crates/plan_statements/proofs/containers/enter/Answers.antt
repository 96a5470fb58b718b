use Rattle.std.proofs.Common.{refl, arith}
use Rattle.plan_statements.proofs.Ranges.Additions.{entered}
use Rattle.plan_statements.proofs.containers.enter.Goals as goal

pub returns : goal.returns
returns c = entered c.args.world.now c.note_life.new.world c.set_value.new.self c.args.line c.args.name c.args.life c.args.taken _ c.enroll.new.self
    c.push.new.self c.len-number.result
    (let e = c.len-number.ensures in let l = c.args.world.now.containers.ok.0 in omega arith)
    c.in_ok-note_life.ensures c.set_value.ensures refl refl refl refl refl refl
    c.in_ok-enroll.ensures.slot c.enroll.ensures.others c.in_ok-push.ensures.items
