use Rattle.std.proofs.Common.{◌≡◌, ◌∙◌, ap, sym, length, map, arith}
use Rattle.table_in.proofs.WholeLemmas.{rows_more}
use Rattle.table_in.specs.Columns.{with_values}
use Rattle.table_in.specs.Plain.{marked}
use Rattle.table_in.proofs.ColumnLemmas.{length-with_rows}
use Rattle.table_in.proofs.rows.push_plain_rows.Goals as goal
use Rattle.table_in.proofs.rows.push_plain_rows.Goals.{then-row-eq2+in_ok-make_room, else-row-eq2}

pub push_marked-requires-clause-columns : goal.push_marked-requires-clause-columns
push_marked-requires-clause-columns c =
    let same : c.if-row-eq2.table ≡ c.loop-row.table = elim c.if-row-eq2.branch [
      | then-row-eq2+in_ok-make_room w ↦ w.table-is ∙ w.in_ok-make_room.ensures
      | else-row-eq2 w ↦ w.table-is
    ] in
    let rows = c.loop-row.invariant.rows in
    c.requires.columns ∙ sym (ap length (same ∙ rows.held) ∙ length-with_rows c.args.table.now (map (marked c.args.marks.now) rows.rows))

pub loop-row-preserved : goal.loop-row-preserved
loop-row-preserved c =
    let same : c.if-row-eq2.table ≡ c.loop-row.table = elim c.if-row-eq2.branch [
      | then-row-eq2+in_ok-make_room w ↦ w.table-is ∙ w.in_ok-make_room.ensures
      | else-row-eq2 w ↦ w.table-is
    ] in
    let wide : length c.read_record.new.values ≡ length c.args.marks.now = omega (arith, c.read_record.auto.values, c.loop-row.invariant.width) in
    let new : c.push_marked.new.self ≡ with_values c.loop-row.table (marked c.args.marks.now c.read_record.new.values) =
    c.in_ok-push_marked.ensures ∙ ap (λ t. with_values t (marked c.args.marks.now c.read_record.new.values)) same in record {
      rows = rows_more c.args.text.now c.args.from c.args.marks.now c.args.table.now c.loop-row.table c.push_marked.new.self c.loop-row.at c.loop-row.row
          c.skip_lines-start.result c.in-Some.end c.read_record.new.values c.loop-row.invariant.rows c.skip_lines-start.ensures.same
          c.skip_lines-start.ensures.ahead c.in-Some.ensures new wide;
      width = wide;
    }
