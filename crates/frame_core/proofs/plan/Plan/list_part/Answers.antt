use Rattle.std.proofs.Common.{◌+◌, ◌++◌}
use Rattle.std.proofs.lemmas.Result.{IfOk-equal}
use Rattle.frame_core.specs.declared.piece.Piece.TheVariants.{OfJob}
use Rattle.frame_core.specs.Touches.{binds_touch}
use Rattle.frame_core.specs.Effects.{touches}
use Rattle.frame_core.proofs.Extents.Footprints.{part_listed}
use Rattle.frame_core.proofs.plan.Plan.list_part.Goals as goal

pub returns : goal.returns
returns c =
    let part = c.part-part.result in
    let more = binds_touch part.parallel part.params.now part.binds.now part.span.start (part.span.start + part.span.len) in
    let all = touches c.args.self.now (OfJob c.args.j c.args.i) in
    IfOk-equal c.list_binds.result c.list_binds.new.out.items (c.push.new.self.items ++ more) (c.args.out.now.items ++ all) c.list_binds.ensures
    (part_listed c.args.out.now.items c.push.new.self.items part.own more all c.part-part.ensures.touches c.in_ok-push.ensures.items)
