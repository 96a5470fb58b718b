use Rattle.std.proofs.Common.{◌<◌, sym, ap, subst, arith}
use Rattle.std.specs.List.{All}
use Rattle.std.specs.Prelude.{vec_len}
use Rattle.plan_state.specs.declared.state.World.{World}
use Rattle.plan_statements.specs.Frames.{AreSmall}
use Rattle.plan_statements.proofs.FramesGoOn.{frame_ready, frame_goes}
use Rattle.plan_statements.proofs.frames.frame.Goals as goal

pub report_overdue-requires-clause-numbers : goal.report_overdue-requires-clause-numbers
report_overdue-requires-clause-numbers c = let r = c.requires.ready in
    (frame_ready (record r.0 { world = c.args.world.now }) c.args.line r.1).tempjobs

pub report_overdue-requires-clause-small : goal.report_overdue-requires-clause-small
report_overdue-requires-clause-small c = let r = c.requires.ready in
    (frame_ready (record r.0 { world = c.args.world.now }) c.args.line r.1).small

pub report_overdue-requires-clause-room : goal.report_overdue-requires-clause-room
report_overdue-requires-clause-room c = let r = c.requires.ready in
    (frame_ready (record r.0 { world = c.args.world.now }) c.args.line r.1).room

pub end_temps-requires-clause-numbers : goal.end_temps-requires-clause-numbers
end_temps-requires-clause-numbers c = let r = c.requires.ready in
    subst (λ (k : World). All (λ c. c < vec_len k.containers) k.temps.items) (sym c.in_ok-ops.ensures.rest)
    (frame_ready (record r.0 { world = c.args.world.now }) c.args.line r.1).temps

pub end_temps-requires-clause-small : goal.end_temps-requires-clause-small
end_temps-requires-clause-small c = let r = c.requires.ready in
    subst (λ (k : World). AreSmall k.containers.items) (sym c.in_ok-ops.ensures.rest)
    (frame_ready (record r.0 { world = c.args.world.now }) c.args.line r.1).small

pub overflow_add-world : goal.overflow_add-world
overflow_add-world c =
    let r = c.requires.ready in
    let few = (frame_ready (record r.0 { world = c.args.world.now }) c.args.line r.1).few in
    let same = ap (λ (k : World). k.frame) c.end_temps.ensures.rest in
    let was = ap (λ (k : World). k.frame) c.in_ok-ops.ensures.rest in
    omega arith

pub returns-clause-answers : goal.returns-clause-answers
returns-clause-answers c = λ script table p draft took.
    frame_goes (record p { world = c.args.world.now }) c.report_overdue.new.world c.end_temps.new.world draft
    c.in_ok-ops.ops.items c.args.line c.in_ok-ops.ensures c.end_temps.ensures took script table
