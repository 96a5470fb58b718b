use Rattle.std.proofs.Common.{rules, ◌<◌, ◌∙◌, [], refl, ap, sym, length, arith, pos, SFits, w64, to_z-of_z}
use Rattle.std.specs.List.{slice_set, slice_index_or}
use Rattle.table_in.specs.Columns.{with_value, with_values, empty_column}
use Rattle.table_in.proofs.ColumnLemmas.{with_values-nil}
use Rattle.table_in.proofs.MarkLemmas.{column_for, few_marked, marked_step, marked_same}
use Rattle.table_in.proofs.columns.Table.push_marked.Goals as goal
use Rattle.table_in.proofs.columns.Table.push_marked.Goals.{then-marks-i+in_ok-push_value, else-marks-i}

pub loop-i-init : goal.loop-i-init
loop-i-init c = record { columns = sym (with_values-nil c.args.self.now); place = refl }

pub push_value-requires : goal.push_value-requires
push_value-requires c =
    column_for c.args.marks.now c.args.values.now c.args.self.now c.loop-i.self c.loop-i.place c.loop-i.i c.requires.columns c.requires.values
    c.loop-i.invariant.columns c.loop-i.invariant.place c.loop-i-test.true c.if-marks-i.true

pub overflow_add-place : goal.overflow_add-place
overflow_add-place c =
    let few = few_marked c.args.marks.now c.args.values.now c.loop-i.i in
    omega (arith, few, c.loop-i.invariant.place)

pub loop-i-preserved : goal.loop-i-preserved
loop-i-preserved c =
    let marks = c.args.marks.now in
    let values = c.args.values.now in
    let init = c.args.self.now in
    let held = c.loop-i.self in
    let place = c.loop-i.place in
    let i = c.loop-i.i in
    let inside : i < length values = c.loop-i-test.true in
    let lt : i < length marks = omega (arith, inside, c.requires.values) in
    elim c.if-marks-i.branch [
      | then-marks-i+in_ok-push_value w ↦
          let fits : SFits w64 (slice_index_or values i (pos 0)) = search rules in
          let step = marked_step marks values init held w.push_value.new.self place i (slice_index_or values i (pos 0)) c.requires.columns
          c.requires.values c.loop-i.invariant.columns c.loop-i.invariant.place inside w.if-marks-i.true refl
          (w.in_ok-push_value.ensures ∙ ap (λ v. slice_set held place (with_value (slice_index_or held place (empty_column [])) v)) (to_z-of_z fits)) in
          record { columns = w.self-is ∙ step.0; place = w.place-is ∙ step.1 }
      | else-marks-i w ↦
          let same = marked_same marks values i lt inside w.if-marks-i.false in
          record {
            columns = w.self-is ∙ c.loop-i.invariant.columns ∙ ap (with_values init) (sym same);
            place = w.place-is ∙ c.loop-i.invariant.place ∙ ap length (sym same);
          }
    ]
