use Rattle.std.proofs.Common.{ℕ, ◌<◌, sym, subst, length, ◌++◌}
use Rattle.std.specs.Prelude.{slice_index_or}
use Rattle.std.proofs.lemmas.Result.{IfOk-equal}
use Rattle.frame_core.specs.declared.plan.Op.{Op}
use Rattle.frame_core.specs.Ordered.{OpFits}
use Rattle.frame_core.specs.Spans.{listed}
use Rattle.frame_core.specs.Effects.{touches}
use Rattle.frame_core.specs.declared.piece.Piece.TheVariants.{OfScript}
use Rattle.frame_core.proofs.Planned.{cells_fit}
use Rattle.frame_core.proofs.Extents.Footprints.{segment_there, segment_listed}
use Rattle.frame_core.proofs.plan.Plan.list_segment.Goals as goal

pub list_ops-requires : goal.list_ops-requires
list_ops-requires c =
    let plan = c.args.self.now in
    let s = c.index.result.now in
    let there = segment_there plan c.args.k s c.requires.segment c.index.ensures in
    record {
      fits = (
        plan,
        subst (λ ops. (m : ℕ) → (d : Op) → m < length ops → OpFits plan (slice_index_or ops m d)) (sym c.deref.ensures.value)
            (c.requires.well.ops c.args.k s there),
        cells_fit plan c.requires.well.sized,
      );
    }

pub returns : goal.returns
returns c =
    let plan = c.args.self.now in
    let s = c.index.result.now in
    let there = segment_there plan c.args.k s c.requires.segment c.index.ensures in
    let last = listed c.notes_read.result in
    IfOk-equal c.push_to.result c.push_to.new.out.items (c.list_ops.new.out.items ++ last)
    (c.args.out.now.items ++ touches plan (OfScript c.args.k)) c.push_to.ensures
    (segment_listed plan c.args.k s c.deref.result.now last there c.deref.ensures.value c.notes_read.ensures c.args.out.now.items c.list_ops.new.out.items
    c.in_ok-list_ops.ensures)
