use Rattle.std.proofs.Common.{◌≡◌, ◌<◌, ◌++◌, ◌∷◌, ◌∙◌, [], ap, ap₂, sym, length, arith, List}
use Rattle.std.specs.List.{slice_index_or}
use Rattle.table_in.specs.Columns.{NamedColumn, empty_column}
use Rattle.table_in.proofs.ColumnLemmas.{length-seen, seen_at}
use Rattle.table_in.proofs.MarkLemmas.{marked_more, marked_same}
use Rattle.table_in.proofs.columns.Table.only.Goals as goal
use Rattle.table_in.proofs.columns.Table.only.Goals.{then-marks-i+in_ok-push_column, else-marks-i}

pub loop-i-preserved : goal.loop-i-preserved
loop-i-preserved c =
    let marks = c.args.marks.now in
    let names = c.args.self.now in
    let i = c.loop-i.i in
    let columns = c.self.inside.columns.items in
    let count : length columns ≡ length names = sym (length-seen columns) ∙ ap length c.self.view_is in
    let lt : i < length marks = c.loop-i-test.true in
    let inside : i < length names = omega (arith, c.requires) in
    let has : i < length columns = omega (arith, count, inside) in
    elim c.if-marks-i.branch [
      | then-marks-i+in_ok-push_column w ↦
          let named : NamedColumn = record { name = w.deref.result.now; values = w.deref-then-marks-i.result.now } in
          let same : named ≡ slice_index_or names i (empty_column []) =
          ap₂ (λ n v. record { name = n; values = v }) w.deref.ensures.value w.deref-then-marks-i.ensures.value
          ∙ seen_at columns i w.index-column.result.now has w.index-column.ensures
          ∙ ap (λ l. slice_index_or l i (empty_column [])) c.self.view_is in
          w.table-is ∙ w.in_ok-push_column.ensures ∙ ap₂ (λ (l : List NamedColumn) (x : NamedColumn). l ++ x ∷ []) c.loop-i.invariant same
          ∙ sym (marked_more (empty_column []) marks names i lt inside w.if-marks-i.true)
      | else-marks-i w ↦ w.table-is ∙ c.loop-i.invariant ∙ sym (marked_same marks names i lt inside w.if-marks-i.false)
    ]
